-- The net currents of all nodes, kept beside the voltages and changed by the move of a node. Assumes nothing.
use Rattle.std.specs.Prelude.{◌≡◌, List, ℕ, ◌≤◌, ℤ, pos, ◌*ℤ◌, length, set}
use Rattle.network.specs.Network.{reading, net}
use Rattle.circuit.specs.Board.{leak_on, nodes_on, network_on}

-- what leaves every node by the leak
pub record Leaked (board : List ℕ) (volts nets : List ℤ) : Type 0 where
  pub long : length nets ≡ 16
  pub each : (i : ℕ) → i ≤ nodes_on board → reading nets i ≡ pos (leak_on board) *ℤ reading volts i

-- the net current of every node, ground and driven ones too, at these voltages
pub record Netted (board : List ℕ) (stretches stored volts nets : List ℤ) : Type 0 where
  pub long : length nets ≡ 16
  pub each : (i : ℕ) → i ≤ nodes_on board → reading nets i ≡ net 1 (network_on board stretches) (reading stored) (reading volts) i

-- node i stands at v, all others where they stood, and the net currents are those of the new voltages
pub record Moved (board : List ℕ) (stretches stored before : List ℤ) (i : ℕ) (v : ℤ) (after nets : List ℤ) : Type 0 where
  pub placed : after ≡ set before i v
  pub netted : Netted board stretches stored after nets

-- .. and just before node i is placed: its own net current apart, those of all others in their places
pub record Spread (board : List ℕ) (stretches stored volts : List ℤ) (i : ℕ) (v own : ℤ) (nets : List ℤ) : Type 0 where
  pub long : length nets ≡ 16
  pub here : own ≡ net 1 (network_on board stretches) (reading stored) (reading (set volts i v)) i
  pub others : (m : ℕ) → m ≤ nodes_on board → (m ≡ i → ⊥) → reading nets m ≡ net 1 (network_on board stretches) (reading stored) (reading (set volts i v)) m
