use mathlib.Core.Path.{◌≡◌}
use mir.Syntax.{w32}
use mir.Val.{to_z, of_z}
use Rattle.network.specs.Network.{reading}
use Rattle.report.proofs.TurnLaws.{turn_none, turn_more}
use borrow.Author.Rules.{rules}
use Rattle.parts.proofs.curve.put_stretches.Goals as goal

pub loop-j-init : goal.loop-j-init
loop-j-init c = turn_none _

pub loop-j-preserved : goal.loop-j-preserved
loop-j-preserved c =
    let l = c.loop-j in
    let b = reading c.args.breakpoints l.j in
    let e : to_z w32 (of_z w32 b) ≡ b = search rules in
    turn_more _ l.j l.invariant (rw e at c.put_stretch.ensures)
