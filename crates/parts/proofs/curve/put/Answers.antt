use mathlib.Core.Path.{◌≡◌}
use native.Mathlib.Omega.{arith}
use mir.Syntax.{w64}
use mir.Val.{to_z, of_z}
use Rattle.console.proofs.TextLaws.{puts_then, puts_within}
use borrow.Author.Rules.{rules}
use Rattle.parts.proofs.curve.put.Goals as goal

pub returns : goal.returns
returns c =
    let slope = c.from in
    let e : to_z w64 (of_z w64 slope.result) ≡ slope.result = search rules in
    let last = rw (e, slope.ensures) at c.put_spaced.ensures in
    let put = puts_within {n = 4096} (omega arith) (puts_then c.put_word.ensures (puts_then c.put_stretches.ensures (puts_then last c.put_word-2.ensures))) in
    let adds = put.adds in
    search rules
