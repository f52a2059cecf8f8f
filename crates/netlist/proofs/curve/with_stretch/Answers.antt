use mathlib.Core.Path.{◌≡◌}
use mir.Syntax.{w32}
use mir.Val.{to_z, of_z}
use Rattle.netlist.specs.Curve.{with_stretch}
use Rattle.netlist.specs.Kept.{kept_count}
use borrow.Author.Rules.{rules}
use Rattle.netlist.proofs.curve.with_stretch.Goals as goal

pub returns : goal.returns
unfolding with_stretch kept_count
returns c =
    let a = c.args in
    let b : to_z w32 (of_z w32 a.breakpoint) ≡ a.breakpoint = search rules in
    rw (c.counted.ensures, c.set_at-breakpoints.ensures, c.set_at-slopes.ensures, b)
