use Prim.Native.Nat.{◌-◌, ◌≤◌}
use Rattle.stretch.specs.Stretch.{breakpoints_in}
use Rattle.stretch.proofs.Halving.{Between}
use Rattle.stretch.proofs.curve.Curve.near.Given as goal

abbrev pub invariant-loop-left : goal.invariant-loop-left
invariant-loop-left l = (l.self.first ≤ l.row) × Between (breakpoints_in l.self.stretches.now l.self.first l.self.breakpoints) l.v (l.row - l.self.first) l.left

abbrev pub decreases-loop-left : goal.decreases-loop-left
decreases-loop-left l = l.left
