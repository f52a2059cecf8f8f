use mathlib.Core.Path.{◌≡◌}
use Prim.Native.Nat.{◌≤◌}
use Rattle.circuit.specs.Board.{count_on}
use Rattle.circuit.proofs.NetLaws.{NettedBy}
use Rattle.circuit.proofs.Circuit.net_currents.Given as goal

abbrev pub invariant-loop-j : goal.invariant-loop-j
invariant-loop-j l = (l.j ≤ l.count) × (l.count ≡ count_on l.self.board) × NettedBy l.self.board l.self.stretches l.stored l.volts l.j l.nets
