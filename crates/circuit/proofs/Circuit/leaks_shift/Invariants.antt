use Prim.Native.Nat.{◌+◌, ◌≤◌}
use Rattle.circuit.proofs.ShiftLaws.{LeaksShifted}
use Rattle.circuit.proofs.Circuit.leaks_shift.Given as goal

abbrev pub invariant-loop-i : goal.invariant-loop-i
invariant-loop-i l = (l.i ≤ l.nodes + 1) × LeaksShifted l.self.board l.self.stretches l.stored l.volts l.s l.i l.nets
