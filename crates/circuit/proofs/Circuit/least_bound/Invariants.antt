use Prim.Native.Nat.{◌≤◌}
use Rattle.circuit.specs.Board.{driven_on}
use Rattle.circuit.proofs.BoundLaws.{UpTo}
use Rattle.circuit.proofs.Circuit.least_bound.Given as goal

abbrev pub invariant-loop-k : goal.invariant-loop-k
invariant-loop-k l = (driven_on l.self.board ≤ l.k) × (l.k ≤ l.nodes) × UpTo l.self.board l.self.stretches l.e l.k l.most
