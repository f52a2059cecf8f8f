use Rattle.solve.proofs.SweepLaws.{swept_more, fell_out, nowhere_down}
use Rattle.solve.proofs.settle.sweep.Goals as goal

pub returns-in_err-moved : goal.returns-in_err-moved
returns-in_err-moved c =
    let k = c.in_err-moved.ensures in
    (k.0, let a = c.args in fell_out a.circuit.now.board a.circuit.now.stretches a.stored.now a.at.now.volts c.step.new.at.volts _ c.from_residual.result c.from_residual.ensures.0 (nowhere_down c.loop-i.invariant.down k.1))

pub loop-i-preserved : goal.loop-i-preserved
loop-i-preserved c = let k = c.in_ok-moved.ensures in swept_more c.loop-i.invariant k.0 c.in_ok-moved.field-0 k.1
