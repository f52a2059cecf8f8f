use Prim.Native.Nat.{◌≤◌}
use Rattle.circuit.specs.Places.{Taken}
use Rattle.circuit.proofs.places.take.Given as goal

abbrev pub invariant-loop-i : goal.invariant-loop-i
invariant-loop-i l = (l.first ≤ l.i) × (l.i ≤ l.end) × Taken l.from l.first l.i l.initial.to l.to
