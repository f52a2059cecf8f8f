use Rattle.solve.proofs.VisitLaws.{visiting_start, judged_highest, judged_at_once, judged_higher}
use Rattle.solve.proofs.certify.certify.Goals as goal

pub returns-then-all_go : goal.returns-then-all_go
returns-then-all_go c = let p = c.requires in let v = visiting_start (rw p.1 at p.0.evaluable.ranged) c.lift.ensures.0 c.lift.ensures.1 in (v.searching, judged_at_once v (c.all_go.ensures c.if-all_go.true))

pub loop-init : goal.loop-init
loop-init c = let p = c.requires in visiting_start (rw p.1 at p.0.evaluable.ranged) c.lift.ensures.0 c.lift.ensures.1

pub returns-in-Through : goal.returns-in-Through
returns-in-Through c = let k = c.in-Through.ensures in (k.0.searching, judged_highest k.0 k.1)

pub returns-in-Sticks : goal.returns-in-Sticks
returns-in-Sticks c =
    let v = c.in-Sticks.ensures.0 in
    let k = c.in-Sticks.ensures.1 in
    (v.searching, judged_higher v k.0 k.1)
