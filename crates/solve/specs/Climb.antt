-- What climbing says of the voltages that it comes to. Assumes nothing.
use Rattle.std.specs.Prelude.{List, ℕ, suc, ◌<◌, ℤ, ◌≤ℤ◌}
use Rattle.network.specs.Network.{reading}
use Rattle.network.specs.Sample.{Legal, Low, Under, Answer}
use Rattle.network.specs.Search.{depth}
use Rattle.circuit.specs.Board.{nodes_on, network_on}
use Rattle.solve.specs.Search.{Changed}

-- `after` is nowhere lower than `before`, and higher at some node; whatever the drives, if `before` is legal and low, so is `after`
pub record Risen (board : List ℕ) (stretches stored before after : List ℤ) : Type 0 where
  pub over : Under (network_on board stretches) (reading before) (reading after)
  pub falls : depth (network_on board stretches) (reading after) < depth (network_on board stretches) (reading before)
  pub low : (d : ℕ → ℤ) → Legal (network_on board stretches) d (reading before) → Low (network_on board stretches) (reading stored) (reading before) → Legal (network_on board stretches) d (reading after) × Low (network_on board stretches) (reading stored) (reading after)

-- no free node is lower
abbrev pub Further : (board : List ℕ) (before after : List ℤ) → Type 0
Further board before after = Changed (λ (j : ℕ) (u : ℤ). reading before j ≤ℤ u) board before after (suc (nodes_on board))

-- what a climb ends with: the answer, whatever the drives, if it began with something legal
abbrev pub Topped : (board : List ℕ) (stretches stored before after : List ℤ) → Type 0
Topped board stretches stored before after = (d : ℕ → ℤ) → Legal (network_on board stretches) d (reading before) → Answer (network_on board stretches) (reading stored) d (reading after)
