use Rattle.network.specs.Network.{Free}
use Rattle.circuit.specs.Board.{network_on}
use Rattle.solve.proofs.LeapLaws.{lands_none, lands_next}
use native.Mathlib.Omega.{arith}
use Rattle.solve.proofs.leap.land.Goals as goal

pub loop-i-init : goal.loop-i-init
loop-i-init c = rw c.driven-i.ensures (lands_none c.requires.0)

pub loop-i-preserved : goal.loop-i-preserved
loop-i-preserved c =
    let free : Free (network_on c.args.circuit.now.board c.args.circuit.now.stretches) c.loop-i.i = (omega (arith, c.driven-i.ensures), omega (arith, c.nodes-nodes.ensures)) in
    let k = c.land_at.ensures in
    lands_next c.loop-i.invariant free (k.1 c.if-not-land_at.false) k.0
