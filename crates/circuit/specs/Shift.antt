-- The net currents of all nodes on the way from some voltages to others. Assumes nothing.
use Rattle.std.specs.Prelude.{◌≡◌, List, ℕ, ◌≤◌, ℤ, length}
use Rattle.network.specs.Network.{reading}
use Rattle.network.specs.Move.{part_shifted}
use Rattle.circuit.specs.Board.{nodes_on, network_on}

-- the leaks and the first n elements carry what they carry at s, the others what they carry at volts
pub record Shifted (board : List ℕ) (stretches stored volts s : List ℤ) (n : ℕ) (nets : List ℤ) : Type 0 where
  pub long : length nets ≡ 16
  pub each : (m : ℕ) → m ≤ nodes_on board → reading nets m ≡ part_shifted (network_on board stretches) (reading stored) (reading volts) (reading s) n m
