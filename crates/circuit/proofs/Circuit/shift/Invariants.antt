use Prim.Native.Nat.{◌≤◌}
use Rattle.circuit.specs.Shift.{Shifted}
use Rattle.circuit.proofs.Circuit.shift.Given as goal

abbrev pub invariant-loop-j : goal.invariant-loop-j
invariant-loop-j l = (l.j ≤ l.count) × Shifted l.self.board l.self.stretches l.stored l.volts l.s l.j l.nets
