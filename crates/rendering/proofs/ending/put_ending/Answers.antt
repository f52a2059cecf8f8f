use native.Mathlib.Omega.{arith}
use borrow.Author.Rules.{rules}
use Rattle.console.specs.Text.{Puts}
use Rattle.console.proofs.TextLaws.{puts_then, puts_within}
use Rattle.rendering.specs.Rendering.{ending}
use Rattle.rendering.proofs.RenderingLaws.{ending_refused}
use Rattle.rendering.proofs.ending.put_ending.Goals as goal
use Rattle.rendering.proofs.ending.put_ending.Goals.{then-number-eq0, else-number-eq0}

pub returns : goal.returns
returns c =
    let a = c.args in
    let count = puts_then c.put_decimal-2.ensures c.put_word-2.ensures in
    let put : Puts (ending a.number a.count) 56 c.new-text.result c.put_word-2.new.self = elim c.if-number-eq0.branch [
      | then-number-eq0 w ↦ rw w.if-number-eq0.true (puts_within (omega arith) (puts_then w.put_word.ensures (rw w.text-is at count)))
      | else-number-eq0 w ↦
          let after = puts_then w.put_word-else-number-eq0-2.ensures (rw w.text-is at count) in
          ending_refused a.number a.count w.if-number-eq0.false (puts_within (omega arith) (puts_then w.put_word-else-number-eq0.ensures (puts_then w.put_decimal.ensures after)))
    ] in
    let adds = put.adds in
    search rules
