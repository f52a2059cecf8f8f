use Rattle.solve.proofs.SweepLaws.{down_more, came_out, nowhere_down}
use Rattle.solve.proofs.settle.settle.Goals as goal

pub returns-in_err-descend : goal.returns-in_err-descend
returns-in_err-descend c =
    let k = c.in_err-descend.ensures in
    (k.0, let a = c.args in came_out a.circuit.now.board a.circuit.now.stretches a.stored.now a.at.now.volts c.descend.new.at.volts c.from_residual.result c.from_residual.ensures.0 (nowhere_down c.loop-sweeps.invariant.1 k.1))

pub loop-sweeps-preserved-then-sweeps-lt2 : goal.loop-sweeps-preserved-then-sweeps-lt2
loop-sweeps-preserved-then-sweeps-lt2 c =
    let k = rw c.if-branch.true at c.in_ok-descend.ensures in
    (k.0, down_more c.loop-sweeps.invariant.1 k.1.down)

pub loop-sweeps-preserved : goal.loop-sweeps-preserved
loop-sweeps-preserved c =
    let k = rw c.if-branch.true at c.in_ok-descend.ensures in
    (k.0, down_more c.loop-sweeps.invariant.1 k.1.down)
