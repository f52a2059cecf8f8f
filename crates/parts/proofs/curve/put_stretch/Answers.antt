use mathlib.Core.Path.{◌≡◌}
use mir.Facts.{to_z-of_z}
use mir.Syntax.{w64}
use mir.Val.{to_z, of_z}
use Rattle.console.proofs.TextLaws.{puts_then}
use borrow.Author.Rules.{rules}
use Rattle.parts.proofs.curve.put_stretch.Goals as goal

pub returns : goal.returns
returns c =
    let slope = c.from in
    let breakpoint = c.from-2 in
    let s : to_z w64 (of_z w64 slope.result) ≡ slope.result = search rules in
    let b : to_z w64 (of_z w64 breakpoint.result) ≡ breakpoint.result = search rules in
    puts_then (rw (s, slope.ensures) at c.put_spaced.ensures) (rw (b, breakpoint.ensures, to_z-of_z c.ranges.breakpoint) at c.put_spaced-2.ensures)
