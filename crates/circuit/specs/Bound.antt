-- The least bound B of demand 3, over a board. Assumes nothing.
use Rattle.std.specs.Prelude.{◌≡◌, Option, None, Some, List, ◌⊎◌, ℤ, ℕ, ◌+◌, ◌*◌, ◌^◌, ◌≤◌, ◌<◌}
use Rattle.network.specs.Bound.{Enough, LeastEnough}
use Rattle.circuit.specs.Board.{nodes_on, driven_on, network_on}

-- at one node: b is the least with b times held at least steepest and e together, or that does not fit
abbrev pub AtNode : ℕ → ℕ → ℕ → Option ℕ → Type 0
AtNode steepest held e (Some b) = (steepest + e ≤ b * held) × ((c : ℕ) → steepest + e ≤ c * held → b ≤ c)
AtNode steepest held e None = (c : ℕ) → steepest + e ≤ c * held → 2 ^ 64 ≤ c

-- over all free nodes; none where there is no free node or the least does not fit
abbrev pub Bounding : List ℕ → List ℤ → ℕ → Option ℕ → Type 0
Bounding board stretches e (Some b) = (driven_on board < nodes_on board) × LeastEnough (network_on board stretches) e b
Bounding board stretches e None = (driven_on board ≡ nodes_on board) ⊎ ((c : ℕ) → Enough (network_on board stretches) e c → 2 ^ 64 ≤ c)
