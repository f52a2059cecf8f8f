use Rattle.solve.proofs.SweepLaws.{down_more}
use native.Mathlib.Omega.{arith}
use Rattle.solve.proofs.leap.leaps.Goals as goal

pub loop-m-preserved : goal.loop-m-preserved
loop-m-preserved c = let k = c.leap.ensures in (omega arith, omega arith, k.0, down_more c.loop-m.invariant.3 k.1)

pub returns-else-leap : goal.returns-else-leap
returns-else-leap c = let k = c.leap.ensures in (k.0, down_more c.loop-m.invariant.3 k.1)
