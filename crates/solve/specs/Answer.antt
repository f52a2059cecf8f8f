-- What the whole search promises: the answer, or that there is none. Assumes nothing.
use Rattle.std.specs.Prelude.{◌≡◌, Bool, cond, List, Result, Ok, Err, ℕ, suc, ◌≤◌, ◌<◌, ℤ, pos, length, ◌≤ℤ◌}
use Rattle.units.specs.Voltage.{voltage_limit, clamped}
use Rattle.network.specs.Network.{Free, reading, net}
use Rattle.network.specs.Sample.{Answer, Empty, DrivesLegal}
use Rattle.circuit.specs.Board.{nodes_on, driven_on, network_on, Ready, Kept}
use Rattle.solve.specs.declared.settle.NoneInRange.{NoneInRange}

-- the drives, where the driven nodes stand at them: that of node j + 1 is d j
abbrev pub drives_at : List ℤ → ℕ → ℤ
drives_at volts j = reading volts (suc j)

-- ---- where it begins

-- a free node begins at the top, or where it was given, brought into range
abbrev pub seat_of : Bool → ℤ → ℤ
seat_of top v = cond top (pos voltage_limit) (clamped v)

-- ground at zero, the driven nodes as they were given, and every free node so
pub record Seated (board : List ℕ) (top : Bool) (given after : List ℤ) : Type 0 where
  pub long : length after ≡ 16
  pub ground : reading after 0 ≡ pos 0
  pub driven : (j : ℕ) → j < driven_on board → reading after (suc j) ≡ drives_at given j
  pub free : (j : ℕ) → driven_on board < j → j ≤ nodes_on board → reading after j ≡ seat_of top (reading given j)

-- no net current is below zero
abbrev pub Start : (board : List ℕ) (stretches stored volts : List ℤ) → Type 0
Start board stretches stored volts = (i : ℕ) → Free (network_on board stretches) i → pos 0 ≤ℤ net 1 (network_on board stretches) (reading stored) (reading volts) i

-- ---- how it ends

-- what the search is given: a board that is ready, stored currents and drives within their limits
pub record Solvable (board : List ℕ) (stretches stored given : List ℤ) : Type 0 where
  pub ready : Ready board stretches
  pub kept : Kept board stored
  pub drives : DrivesLegal (network_on board stretches) (drives_at given)

-- what it gives: the answer at the nodes, or that there is none
abbrev pub Solved : (board : List ℕ) (stretches stored given after : List ℤ) → Result Unit NoneInRange → Type 0
Solved board stretches stored given after (Ok _) = Answer (network_on board stretches) (reading stored) (drives_at given) (reading after)
Solved board stretches stored given after (Err _) = Empty (network_on board stretches) (reading stored) (drives_at given)
