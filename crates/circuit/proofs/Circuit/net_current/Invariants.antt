use mathlib.Core.Path.{◌≡◌}
use Prim.Native.Nat.{◌+◌, ◌≤◌}
use Rattle.circuit.specs.Board.{start_on}
use Rattle.circuit.proofs.NodeLaws.{net_to}
use Rattle.circuit.proofs.Circuit.net_current.Given as goal

abbrev pub invariant-loop-k : goal.invariant-loop-k
invariant-loop-k l = (start_on l.self.board l.node ≤ l.k) × (l.k ≤ l.k-end) × (l.k-end ≡ start_on l.self.board (l.node + 1)) × (l.sum ≡ net_to l.self.board l.self.stretches l.stored l.volts l.node l.k)
