-- What one sample promises: network's outcome, which is unique. Assumes nothing.
use Rattle.std.specs.Prelude.{◌≡◌, Bool, true, false, List, Result, Ok, Err, ℕ, ◌≤◌, ◌<◌, ℤ, pos, nat_abs, length, ◌≤ℤ◌, ◌<ℤ◌}
use Rattle.units.specs.Number.{number_of}
use Rattle.units.specs.Voltage.{voltage_limit, drive_limit, InDrive}
use Rattle.units.specs.declared.number.Number.{Number}
use Rattle.units.specs.declared.number.Number.TheVariants.{Done}
use Rattle.network.specs.Network.{Network, reading}
use Rattle.network.specs.Sample.{Outcome, accepted, answer_of, Gives}
use Rattle.circuit.specs.Board.{nodes_on, driven_on, Ready, Kept}
use Rattle.solve.specs.Answer.{drives_at}

-- whether every drive is within its limit; one that is not, if there is one
abbrev pub DrivesTested : List ℕ → List ℤ → Bool → Type 0
DrivesTested board volts true = (j : ℕ) → j < driven_on board → InDrive (drives_at volts j)
DrivesTested board volts false = (j : ℕ) × (j < driven_on board) × (drive_limit < nat_abs (drives_at volts j))

-- whether some free node is not below the top
abbrev pub TopTested : List ℕ → List ℤ → Bool → Type 0
TopTested board volts true = (i : ℕ) × (driven_on board < i) × (i ≤ nodes_on board) × (pos voltage_limit ≤ℤ reading volts i)
TopTested board volts false = (i : ℕ) → driven_on board < i → i ≤ nodes_on board → reading volts i <ℤ pos voltage_limit

-- what a sample is given: a board that is ready, and stored currents within their limit
pub record Playable (board : List ℕ) (stretches stored : List ℤ) : Type 0 where
  pub ready : Ready board stretches
  pub kept : Kept board stored
  pub long : length stored ≡ 32

-- a sample with the drives d: x is stored before it and y after it, v are the voltages after it
pub data Sampled (N : Network) (d : ℕ → ℤ) (x y v : List ℤ) : Number → Type 0 where
  -- accepted with v and y; y is as long as x, and past the elements as it was
  passed :
      Gives N (reading x) d (accepted (reading v) (reading y))
      → length y ≡ length x
      → ((i : ℕ) → N.count ≤ i → reading y i ≡ reading x i)
      → Sampled N d x y v Done
  -- refused with r, whose number is not 0; nothing new is stored
  refused :
      (r : Outcome)
      → Gives N (reading x) d r
      → 0 < number_of (answer_of r)
      → y ≡ x
      → Sampled N d x y v (answer_of r)

-- .. whose drives are legal: accepted, or refused with a number that is not 0
abbrev pub Voiced : (N : Network) (d : ℕ → ℤ) (x y v : List ℤ) → Result Unit Number → Type 0
Voiced N d x y v (Ok _) = Sampled N d x y v Done
Voiced N d x y v (Err number) = (0 < number_of number) × Sampled N d x y v number

-- what a sample leaves in every place, u being the voltages before it: those past the nodes are as they were, and after a refusal all are
pub record Leaves (N : Network) (x y u v : List ℤ) (number : Number) : Type 0 where
  pub outcome : Sampled N (drives_at u) x y v number
  pub long : length v ≡ length u
  pub past : (i : ℕ) → N.nodes < i → reading v i ≡ reading u i
  pub unheard : 0 < number_of number → v ≡ u
