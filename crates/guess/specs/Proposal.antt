-- What a proposal is: voltages in range at the free nodes, and nothing changed elsewhere. Assumes nothing.
use Rattle.std.specs.Prelude.{◌≡◌, ℕ, ◌<◌, ◌≤◌, ◌⊎◌, List, length, ℤ}
use Rattle.units.specs.Voltage.{InRange}
use Rattle.network.specs.Network.{reading}
use Rattle.circuit.specs.Board.{nodes_on, driven_on, count_on, p_on, q_on, Ready, Kept, Ranged}

-- every place that a node or an element of the board asks for is there
pub record InPlaces (board : List ℕ) : Type 0 where
  pub few_nodes : nodes_on board ≤ 15
  pub few_driven : driven_on board ≤ nodes_on board
  pub few_elements : count_on board ≤ 32
  pub p_there : (j : ℕ) → j < count_on board → p_on board j ≤ nodes_on board
  pub q_there : (j : ℕ) → j < count_on board → q_on board j ≤ nodes_on board

-- every node in range, in an array of 16
pub record Standing (board : List ℕ) (volts : List ℤ) : Type 0 where
  pub long : length volts ≡ 16
  pub ranged : Ranged board volts

-- the free nodes stand in range; every other place is as it was
pub record Proposed (board : List ℕ) (before after : List ℤ) : Type 0 where
  pub long : length after ≡ length before
  pub elsewhere : (j : ℕ) → (j ≤ driven_on board) ⊎ (nodes_on board < j) → reading after j ≡ reading before j
  pub free : (j : ℕ) → driven_on board < j → j ≤ nodes_on board → InRange (reading after j)

-- what the guess is given: a board that is ready, and stored currents within their limit
pub record Guessable (board : List ℕ) (stretches stored : List ℤ) : Type 0 where
  pub ready : Ready board stretches
  pub kept : Kept board stored
