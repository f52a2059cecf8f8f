use mathlib.Core.Path.{◌≡◌}
use Prim.Native.Nat.{◌≤◌}
use Rattle.block.specs.Call.{bytes_with}
use Rattle.block.proofs.state.write.Given as goal

abbrev pub invariant-loop-j : goal.invariant-loop-j
invariant-loop-j l = (l.j ≤ 32) × (l.state ≡ bytes_with l.initial.state l.x l.j)
