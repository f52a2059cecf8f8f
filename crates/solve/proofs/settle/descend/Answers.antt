use Rattle.solve.proofs.SweepLaws.{lowered_down}
use Rattle.solve.proofs.settle.descend.Goals as goal

pub returns-then-moved : goal.returns-then-moved
returns-then-moved c =
    let k = rw c.if-moved.true at c.in_ok-moved.ensures in
    (c.leaps.ensures.0, rw c.if-moved.true (lowered_down k.1 c.leaps.ensures.1))
