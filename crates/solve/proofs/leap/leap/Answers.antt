use Rattle.solve.proofs.LeapLaws.{leap_down}
use Rattle.solve.proofs.leap.leap.Goals as goal

pub returns-then-land : goal.returns-then-land
returns-then-land c = let k = c.land.ensures in (k.0, leap_down c.lead.ensures.1 k.0 (k.1 c.if-land.true))
