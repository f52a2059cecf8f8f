use Rattle.std.proofs.Common.{◌≡◌, true}
use Rattle.units.specs.Table.{every}
use Rattle.measured.specs.Measured.{follows}
use Rattle.measured.proofs.pairs.all_follow.Given as goal

abbrev pub invariant-loop-j : goal.invariant-loop-j
invariant-loop-j l = every (follows l.voltages l.currents) l.j ≡ true
