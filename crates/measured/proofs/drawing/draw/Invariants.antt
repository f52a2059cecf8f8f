use Rattle.std.proofs.Common.{◌≡◌, true, ◌+◌}
use Rattle.units.specs.Table.{padded, every}
use Rattle.measured.specs.Measured.{slope_at, slope_small}
use Rattle.measured.specs.Measured as definition
use Rattle.measured.proofs.drawing.draw.Given as goal

abbrev pub invariant-loop-j : goal.invariant-loop-j
invariant-loop-j l = (l.slopes ≡ padded 0 17 (slope_at l.voltages l.currents) (l.j + 1)) × (l.reached ≡ definition.reached l.voltages l.currents l.j) × (every (slope_small l.voltages l.currents) (l.j + 1) ≡ true)
