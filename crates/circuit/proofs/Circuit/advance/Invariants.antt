use Prim.Native.Nat.{ℕ, ◌≤◌, ◌<◌}
use Rattle.units.specs.Voltage.{Within}
use Rattle.network.specs.Network.{next, reading, stored_limit}
use Rattle.circuit.specs.Board.{network_on}
use Rattle.circuit.specs.Advance.{StoredTo}
use Rattle.circuit.proofs.Circuit.advance.Given as goal

abbrev pub invariant-loop-j : goal.invariant-loop-j
invariant-loop-j l = (l.j ≤ l.count) × ((i : ℕ) → i < l.j → Within stored_limit (next (network_on l.self.board l.self.stretches) (reading l.initial.stored) (reading l.volts) i)) × StoredTo l.self.board l.self.stretches l.volts l.initial.stored l.j l.stored
