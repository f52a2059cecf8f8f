use Rattle.solve.proofs.VisitLaws.{lap_back, lap_goes, lap_through}
use native.Mathlib.Omega.{arith}
use Rattle.solve.proofs.certify.visit_all.Goals as goal

pub loop-i-preserved-in-Back : goal.loop-i-preserved-in-Back
loop-i-preserved-in-Back c =
    let k = c.in-Back.ensures in
    (k.0, lap_back c.loop-i.invariant.1 (omega arith) (omega (arith, c.driven-i-start.ensures)) (omega (arith, c.nodes-nodes.ensures)) k.1)

pub loop-i-preserved : goal.loop-i-preserved
loop-i-preserved c =
    let k = c.in-Goes.ensures in
    (k.0, lap_goes c.loop-i.invariant.1 (omega arith) (omega (arith, c.driven-i-start.ensures)) (omega (arith, c.nodes-nodes.ensures)) c.loop-i.invariant.0 k.1)

pub returns : goal.returns
returns c =
    let h = c.loop-i.invariant in
    (record { searching = h.0; ranged = h.1.ranged; visit = h.1.visit }, lap_through h.1 h.0 (omega (arith, c.driven-i-start.ensures)) c.if-wait.false)
