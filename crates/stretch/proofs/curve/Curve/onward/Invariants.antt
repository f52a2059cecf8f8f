use Prim.Native.Nat.{◌+◌, ◌≤◌}
use Rattle.stretch.specs.Stretch.{stretch_of, breakpoints_in}
use Rattle.stretch.proofs.curve.Curve.onward.Given as goal

abbrev pub invariant-loop-row : goal.invariant-loop-row
invariant-loop-row l = (l.self.first ≤ l.row) × (l.row ≤ l.self.first + stretch_of (breakpoints_in l.self.stretches.now l.self.first l.self.breakpoints) l.v)
