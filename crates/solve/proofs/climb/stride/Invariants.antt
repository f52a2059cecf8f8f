use Prim.Native.Nat.{◌^◌, ◌≤◌}
use Rattle.solve.proofs.climb.stride.Given as goal

abbrev pub invariant-loop-i : goal.invariant-loop-i
invariant-loop-i l = l.t ≤ 2 ^ 26
