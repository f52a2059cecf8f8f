use native.Mathlib.Omega.{arith}
use borrow.Author.Rules.{rules}
use Rattle.console.proofs.TextLaws.{puts_then, puts_within}
use Rattle.netlist_main.proofs.refusal.put_at.Goals as goal

pub returns : goal.returns
returns c =
    let line = puts_then c.put_word-2.ensures (puts_then c.put_decimal-2.ensures c.put_word-3.ensures) in
    let put = puts_within {n = 4096} (omega arith) (puts_then c.put_word.ensures (puts_then c.put_decimal.ensures line)) in
    let adds = put.adds in
    search rules
