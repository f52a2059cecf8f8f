use Rattle.std.proofs.Common.{◌≡◌, pos, ◌*ℤ◌, arith, rules, w64, to_z, of_z, to_z-of_z, SFits}
use Rattle.std.proofs.lemmas.Grind.{common_steps}
use native.Mathlib.Nat.{mul-le-mul}
use Rattle.units.proofs.Sizes.{times_fits}
use Rattle.network.specs.Network.{reading}
use Rattle.circuit.specs.Board.{leak_on}
use Rattle.circuit.proofs.Circuit.leaked.Goals as goal

pub loop-i-preserved : goal.loop-i-preserved
loop-i-preserved c =
    let l = c.loop-i in
    let v = reading c.args.volts.now l.i in
    let e : to_z w64 (of_z w64 v) ≡ v = search rules in
    let product : SFits w64 (pos (leak_on c.args.self.now.board) *ℤ v) = times_fits (pos (leak_on c.args.self.now.board)) v (omega (arith, mul-le-mul c.requires.0 (c.requires.2 l.i (omega (arith, c.nodes-nodes.ensures))))) in
    rw (l.invariant.2, e, to_z-of_z product) (grind (arith, common_steps))
