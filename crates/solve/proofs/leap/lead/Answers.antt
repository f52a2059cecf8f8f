use mathlib.Core.Path.{◌≡◌}
use Rattle.network.specs.Network.{Free, reading}
use Rattle.circuit.specs.Board.{network_on}
use Rattle.solve.specs.Leap.{Reached}
use Rattle.solve.proofs.PlaceLaws.{changed_more, place_of}
use native.Mathlib.Omega.{arith}
use borrow.Author.Rules.{rules}
use mir.Syntax.{w64}
use mir.Val.{to_z, of_z}
use Rattle.solve.proofs.leap.lead.Goals as goal

pub loop-i-preserved : goal.loop-i-preserved
loop-i-preserved c =
    let l = c.loop-i in
    let free : Free (network_on c.args.circuit.now.board c.args.circuit.now.stretches) c.loop-i.i = (omega (arith, c.driven-i.ensures), omega (arith, c.nodes-nodes.ensures)) in
    let at-volts : to_z w64 (of_z w64 (reading c.args.volts.now c.loop-i.i)) ≡ reading c.args.volts.now c.loop-i.i = search rules in
    let e : to_z w64 (of_z w64 c.reached-u.result) ≡ c.reached-u.result = search rules in
    let far : Reached (reading c.args.volts.now c.loop-i.i) (to_z w64 (of_z w64 c.reached-u.result)) = rw e (rw at-volts at c.reached-u.ensures) in
    (c.put.ensures.0, changed_more l.invariant.1 free.0 (place_of l.invariant.0 free.1) far c.put.ensures.1)
