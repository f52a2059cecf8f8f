-- What a leap says of the voltages that it comes to. Assumes nothing.
use Rattle.std.specs.Prelude.{◌≡◌, List, ◌⊎◌, ℕ, suc, ◌≤◌, ◌<◌, ℤ, pos, ◌-ℤ◌, set, ◌≤ℤ◌, ◌<ℤ◌}
use Rattle.units.specs.Voltage.{InRange, bottom}
use Rattle.network.specs.Network.{Free, reading, net}
use Rattle.network.specs.Search.{Sank}
use Rattle.circuit.specs.Board.{nodes_on, driven_on, network_on}
use Rattle.solve.specs.Search.{Changed}

-- where a leap takes a node from v: down or nowhere, and not to the very bottom
pub record Reached (v u : ℤ) : Type 0 where
  pub ranged : InRange u
  pub down : u ≤ℤ v
  pub room : (u ≡ v) ⊎ (bottom <ℤ u)

-- .. and all free nodes
abbrev pub Led : (board : List ℕ) (volts far : List ℤ) → Type 0
Led board volts far = Changed (λ (j : ℕ) (u : ℤ). Reached (reading volts j) u) board volts far (suc (nodes_on board))

-- a free node that leapt may sink by one
abbrev pub Sinkable : (board : List ℕ) (volts far : List ℤ) → Type 0
Sinkable board volts far = (j : ℕ) → driven_on board < j → j ≤ nodes_on board → reading far j <ℤ reading volts j → bottom <ℤ reading far j

-- node i at the far end of a leap
pub data LandedAt (board : List ℕ) (stretches stored volts far : List ℤ) (i : ℕ) : List ℤ → Type 0 where
  -- it did not leap
  stays : reading volts i ≤ℤ reading far i → LandedAt board stretches stored volts far i far
  -- it did, its net current was above zero and it is lowered by one
  sinks : reading far i <ℤ reading volts i → pos 0 <ℤ net 1 (network_on board stretches) (reading stored) (reading far) i → LandedAt board stretches stored volts far i (set far i (reading far i -ℤ pos 1))

-- from s, where a leap led, e sank, and every node that leapt is lower still
pub record Lands (board : List ℕ) (stretches stored volts s e : List ℤ) : Type 0 where
  pub sank : Sank (network_on board stretches) (reading stored) (reading s) (reading e)
  pub falls : (j : ℕ) → Free (network_on board stretches) j → (reading volts j ≤ℤ reading s j) ⊎ (reading e j <ℤ reading s j)
