-- What comes back of a block: document 01, "What comes back". x is the state that is given, d j i the drive of node i + 1 in sample j.
-- Assumes nothing.
use Rattle.std.specs.Prelude.{◌≡◌, Bool, true, false, List, ℕ, suc, ◌+◌, ◌*◌, ◌/◌, ◌≤◌, ◌<◌, ℤ, pos, length}
use Rattle.std.specs.Int.{w32, w64}
use Rattle.std.proofs.Common.{to_z, of_z}
use Rattle.units.specs.Bytes.{little_endian, written}
use Rattle.units.specs.Number.{number_of}
use Rattle.units.specs.Voltage.{Within}
use Rattle.units.specs.declared.number.Number.{Number}
use Rattle.units.specs.declared.number.Number.TheVariants as number
use Rattle.network.specs.Network.{nothing, Network, reading, stored_limit}
use Rattle.network.specs.Kind.{store_of}
use Rattle.network.specs.Sample.{Outcome, accepted, answer_of, Gives}
use Rattle.image.specs.Conductance.{conductances_fit}
use Rattle.image.specs.Format.{opening_of, opened, refused}
use Rattle.image.specs.Meaning.{network_at}
use Rattle.image.specs.Setting.{plain}
use Rattle.image.specs.declared.parts.Parts.{Parts}
use Rattle.block.specs.declared.call.State.{State}

-- how many samples a block has at the most, and how many places for stored currents there are
abbrev pub block_limit : ℕ
block_limit = 4096

abbrev pub places : ℕ
places = 32

-- the drive of node i + 1 in sample j: sample by sample, nodes 1 to d in turn, four bytes each
abbrev pub drive_at : List ℕ → ℕ → ℕ → ℕ → ℤ
drive_at drives driven j i = to_z w32 (little_endian 4 drives (4 * (j * driven + i)))

-- ---- what a block is played from

-- number 7 does not apply: stored currents within their limit, and zero where no element or one that stores nothing stands
pub record StateLegal (N : Network) (x : State) : Type 0 where
  pub long : length x.currents ≡ places
  pub kept : (j : ℕ) → j < places → Within stored_limit (reading x.currents j)
  pub zeros : (j : ℕ) → j < places → (N.branch j).store ≡ nothing → reading x.currents j ≡ pos 0

-- number 8 does not apply: n samples, drives for all of them and a place for each output, of the bytes that are lent
pub record LengthsFit (driven n drives outputs : ℕ) : Type 0 where
  pub few : n ≤ block_limit
  pub driven_enough : n * driven ≤ drives / 4
  pub room : n ≤ outputs / 4

-- neither does
pub record Begins (parts : Parts) (x : State) (n : ℕ) (drives outputs : List ℕ) : Type 0 where
  pub legal : StateLegal (network_at parts plain) x
  pub fit : LengthsFit parts.driven n (length drives) (length outputs)

-- ---- its samples

-- after j accepted samples: the state, and the output bytes with the first j places written; N j is the network of sample j
pub data Run (N : ℕ → Network) (output : ℕ) (d : ℕ → ℕ → ℤ) (x : State) (outputs : List ℕ) : ℕ → State → List ℕ → Type 0 where
  start : Run N output d x outputs 0 x outputs
  sample :
      {j : ℕ} {y z : State} {o : List ℕ} (v : ℕ → ℤ) →
      Run N output d x outputs j y o →
      Gives (N j) (reading y.currents) (d j) (accepted v (reading z.currents)) →
      length z.currents ≡ length y.currents →
      ((i : ℕ) → (N j).count ≤ i → reading z.currents i ≡ reading y.currents i) →
      Run N output d x outputs (suc j) z (written 4 o (4 * j) (of_z w64 (v output)))

-- those of a circuit, whose network is the same in every sample
abbrev pub RunOf : Parts → List ℕ → State → List ℕ → ℕ → State → List ℕ → Type 0
RunOf parts drives x outputs = Run (λ (j : ℕ). network_at parts plain) parts.output (drive_at drives parts.driven) x outputs

-- sample j, which the state y and the output bytes o stand before, is refused by r
pub record Refuses (parts : Parts) (drives : List ℕ) (x : State) (outputs : List ℕ) (j : ℕ) (y : State) (o : List ℕ) (r : Outcome) : Type 0 where
  pub run : RunOf parts drives x outputs j y o
  pub gives : Gives (network_at parts plain) (reading y.currents) (drive_at drives parts.driven j) r
  pub some : 0 < number_of (answer_of r)

-- ---- the number, the count, the state and the output bytes that come back

-- once the circuit stands
pub data PlaysOn (parts : Parts) (x : State) (n : ℕ) (drives outputs : List ℕ) : (number count : ℕ) → State → List ℕ → Type 0 where
  state-refused :
      (StateLegal (network_at parts plain) x → ⊥) →
      PlaysOn parts x n drives outputs (number_of number.State) 0 x outputs
  lengths-refused :
      StateLegal (network_at parts plain) x →
      (LengthsFit parts.driven n (length drives) (length outputs) → ⊥) →
      PlaysOn parts x n drives outputs (number_of number.Lengths) 0 x outputs
  sample-refused :
      {j : ℕ} {y : State} {o : List ℕ} {r : Outcome} →
      Begins parts x n drives outputs →
      j < n →
      Refuses parts drives x outputs j y o r →
      PlaysOn parts x n drives outputs (number_of (answer_of r)) j y o
  done :
      {y : State} {o : List ℕ} →
      Begins parts x n drives outputs →
      RunOf parts drives x outputs n y o →
      PlaysOn parts x n drives outputs (number_of number.Done) n y o

-- of any image
pub data Plays (image : List ℕ) (x : State) (n : ℕ) (drives outputs : List ℕ) : (number count : ℕ) → State → List ℕ → Type 0 where
  image-refused :
      {k : Number} →
      opening_of image ≡ refused k →
      Plays image x n drives outputs (number_of k) 0 x outputs
  conductance-refused :
      {parts : Parts} →
      opening_of image ≡ opened parts →
      conductances_fit parts plain ≡ false →
      Plays image x n drives outputs (number_of number.Conductance) 0 x outputs
  plays-on :
      {parts : Parts} {k count : ℕ} {y : State} {o : List ℕ} →
      opening_of image ≡ opened parts →
      conductances_fit parts plain ≡ true →
      PlaysOn parts x n drives outputs k count y o →
      Plays image x n drives outputs k count y o

-- ---- what the code's tests say

-- a test that decides a fact
abbrev pub Decides : Bool → Type 0 → Type 0
Decides true fact = fact
Decides false fact = fact → ⊥

-- a stored current that may stand at an element of a kind
pub record LegalAt (kind : ℕ) (x : ℤ) : Type 0 where
  pub kept : Within stored_limit x
  pub none : store_of kind ≡ nothing → x ≡ pos 0
