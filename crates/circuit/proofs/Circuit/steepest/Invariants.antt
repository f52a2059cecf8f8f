use mathlib.Core.Path.{◌≡◌}
use Prim.Native.Nat.{◌+◌, ◌≤◌}
use Rattle.circuit.specs.Board.{start_on}
use Rattle.circuit.proofs.NodeLaws.{added, steepest_each}
use Rattle.circuit.proofs.Circuit.steepest.Given as goal

abbrev pub invariant-loop-k : goal.invariant-loop-k
invariant-loop-k l = (start_on l.self.board l.node ≤ l.k) × (l.k ≤ l.k-end) × (l.k-end ≡ start_on l.self.board (l.node + 1)) × (l.sum ≡ added l.self.board (steepest_each l.self.board l.self.stretches l.node) l.node l.k)
