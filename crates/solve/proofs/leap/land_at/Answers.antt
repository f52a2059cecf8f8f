use mathlib.Core.Path.{◌≡◌, refl}
use native.Mathlib.Omega.{arith}
use lib.IntN.{pos}
use Rattle.units.proofs.Integers.{le_z_true, le_z_false, lt_z_true}
use Rattle.units.proofs.Sizes.{minus_is}
use Rattle.network.specs.Network.{reading}
use Rattle.solve.specs.Leap.{stays, sinks}
use Rattle.solve.proofs.PlaceLaws.{node_is}
use Rattle.solve.proofs.StepLaws.{net_is}
use borrow.Author.Rules.{rules}
use mir.Syntax.{w64}
use mir.Val.{to_z, of_z}
use Rattle.solve.proofs.leap.land_at.Goals as goal

pub returns-then-volts-i : goal.returns-then-volts-i
returns-then-volts-i c =
    let at-volts : to_z w64 (of_z w64 (reading c.args.volts.now c.args.i)) ≡ reading c.args.volts.now c.args.i = search rules in
    (c.requires.0, λ e. stays (le_z_true _ _ (rw (at-volts, node_is c.requires.0 c.requires.1.1) at c.if-volts-i.true)))

pub returns : goal.returns
returns c =
    let p = c.requires.0 in
    let i = c.args.i in
    let free = c.requires.1 in
    let at-volts : to_z w64 (of_z w64 (reading c.args.volts.now c.args.i)) ≡ reading c.args.volts.now c.args.i = search rules in
    let lower = minus_is _ _ (reading c.args.far.now.volts i) (pos 1) (node_is p free.1) refl (omega (arith, p.evaluable.ranged i free.1)) in
    let leapt = le_z_false _ _ (rw (at-volts, node_is p free.1) at c.if-volts-i.false) in
    let high = lt_z_true _ _ (rw (net_is p i free) at c.if-not-high.false) in
    (c.put.ensures.0, λ t. rw (c.put.ensures.1, lower) (sinks leapt high))
