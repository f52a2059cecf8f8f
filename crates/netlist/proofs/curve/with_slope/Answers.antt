use Rattle.netlist.specs.Curve.{with_slope}
use Rattle.netlist.proofs.curve.with_slope.Goals as goal

pub returns : goal.returns
unfolding with_slope
returns c = rw c.set_at-slopes.ensures
