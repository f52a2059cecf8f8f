-- What is known between the samples of a block, and what comes of them all. Assumes nothing.
use Rattle.std.specs.Prelude.{◌≡◌, true, List, ℕ, ◌+◌, ◌*◌, ◌≤◌, ◌<◌, ℤ, length, Result, Ok, Err}
use Rattle.units.specs.Number.{number_of}
use Rattle.units.specs.declared.number.Number.{Number}
use Rattle.network.specs.Network.{Network, reading}
use Rattle.network.specs.Sample.{Outcome, answer_of, Gives}
use Rattle.image.specs.Conductance.{conductances_fit}
use Rattle.image.specs.Format.{opening_of, opened}
use Rattle.image.specs.Setting.{plain}
use Rattle.image.specs.declared.parts.Parts.{Parts}
use Rattle.circuit.specs.Board.{nodes_on, driven_on}
use Rattle.block.specs.Block.{block_limit, Run, Plays}
use Rattle.block.specs.declared.call.State.{State}

-- what comes of an image: the parts of a circuit that can be played, or a number that refuses whatever else is given
abbrev pub Admits : List ℕ → Result Parts Number → Type 0
Admits image (Ok parts) = (opening_of image ≡ opened parts) × (conductances_fit parts plain ≡ true)
Admits image (Err k) = (number_of k ≡ 0 → ⊥) × ((x : State) (n : ℕ) (drives outputs : List ℕ) → Plays image x n drives outputs (number_of k) 0 x outputs)

-- the drives of sample j are there
pub record Driven (board drives : List ℕ) (j : ℕ) : Type 0 where
  pub few : j < block_limit
  pub there : 4 * (j * driven_on board + driven_on board) ≤ length drives

-- the drives of n samples are there, and a place for each output
pub record Room (board : List ℕ) (output n : ℕ) (drives outputs : List ℕ) : Type 0 where
  pub heard : output ≤ nodes_on board
  pub few : n ≤ block_limit
  pub driven : 4 * (n * driven_on board) ≤ length drives
  pub room : 4 * n ≤ length outputs

-- stored currents as a state
abbrev pub state_of : List ℤ → State
state_of x = record { currents = x }

-- what came of n samples, by the number and the count: all were accepted, or one was refused
pub data Ran (N : Network) (output : ℕ) (d : ℕ → ℕ → ℤ) (x : List ℤ) (n : ℕ) (outputs : List ℕ) (y : List ℤ) (o : List ℕ) : ℕ → ℕ → Type 0 where
  all :
      Run (λ (j : ℕ). N) output d (state_of x) outputs n (state_of y) o →
      Ran N output d x n outputs y o 0 n
  short :
      (j : ℕ) (r : Outcome) →
      j < n →
      Run (λ (j : ℕ). N) output d (state_of x) outputs j (state_of y) o →
      Gives N (reading y) (d j) r →
      0 < number_of (answer_of r) →
      Ran N output d x n outputs y o (number_of (answer_of r)) j
