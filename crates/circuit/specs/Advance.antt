-- The advance of stored currents, over a board. Assumes nothing.
use Rattle.std.specs.Prelude.{◌≡◌, Result, Ok, Err, Bool, true, false, List, ℕ, ◌*◌, ◌^◌, ◌≤◌, ◌<◌, ℤ, pos, nat_abs, ◌*ℤ◌, length}
use Rattle.units.specs.Voltage.{Within}
use Rattle.network.specs.Network.{advance, conductance_of, next, reading, stored_limit}
use Rattle.circuit.specs.Board.{count_on, plain_conductance, branch_on, network_on, across_on}
use Rattle.circuit.specs.declared.advance.Beyond.{Beyond}

-- twice the conductance of element j times its voltage; the bound is for sums
pub record Twice (board : List ℕ) (volts : List ℤ) (j : ℕ) (r : ℤ) : Type 0 where
  pub value : r ≡ pos (2 * plain_conductance board j) *ℤ across_on board volts j
  pub small : nat_abs r ≤ 2 ^ 57

-- the stored current of element j after a sample, x being the one before it
abbrev pub next_on : List ℕ → List ℤ → List ℤ → ℕ → ℤ → ℤ
next_on board stretches volts j x = advance (branch_on board stretches j).store (conductance_of (branch_on board stretches j).law) x (across_on board volts j)

-- whether every new stored current is within its limit; one that is not, if there is one
abbrev pub AllKept : List ℕ → List ℤ → List ℤ → List ℤ → Bool → Type 0
AllKept board stretches volts stored true = (j : ℕ) → j < count_on board → Within stored_limit (next (network_on board stretches) (reading stored) (reading volts) j)
AllKept board stretches volts stored false = (j : ℕ) × (j < count_on board) × (stored_limit < nat_abs (next (network_on board stretches) (reading stored) (reading volts) j))

-- the first n stored currents are the new ones, and all others as they were
pub record StoredTo (board : List ℕ) (stretches volts before : List ℤ) (n : ℕ) (after : List ℤ) : Type 0 where
  pub long : length after ≡ length before
  pub new : (j : ℕ) → j < n → reading after j ≡ next (network_on board stretches) (reading before) (reading volts) j
  pub old : (j : ℕ) → n ≤ j → reading after j ≡ reading before j

-- what an advance leaves: every new stored current, all within their limit, or everything as it was
abbrev pub Advancing : List ℕ → List ℤ → List ℤ → List ℤ → Result Unit Beyond → List ℤ → Type 0
Advancing board stretches volts before (Ok _) after = AllKept board stretches volts before true × StoredTo board stretches volts before (count_on board) after
Advancing board stretches volts before (Err _) after = AllKept board stretches volts before false × (after ≡ before)
