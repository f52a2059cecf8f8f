-- What a host has of a call: the number and the count in its answer, and what each sample was played from. Assumes nothing.
use Rattle.std.specs.Prelude.{◌≡◌, true, List, ℕ, ◌*◌, ◌/◌, ◌%◌, ◌<◌, ℤ}
use Rattle.std.specs.Int.{w32}
use Rattle.std.proofs.Common.{to_z}
use Rattle.units.specs.Bytes.{little_endian}
use Rattle.network.specs.Network.{Network, reading}
use Rattle.image.specs.Conductance.{conductances_fit}
use Rattle.image.specs.Format.{opening_of, opened}
use Rattle.image.specs.Meaning.{network_at}
use Rattle.image.specs.Setting.{plain}
use Rattle.image.specs.declared.parts.Parts.{Parts}
use Rattle.block.specs.Block.{drive_at, Begins, RunOf}
use Rattle.block.specs.Call.{state_in}
use Rattle.block.specs.declared.call.State.{State}

-- the header's KRTOVALIN_NUMBER and KRTOVALIN_COUNT
abbrev pub number_in : ℕ → ℕ
number_in answer = answer / 65536

abbrev pub count_in : ℕ → ℕ
count_in answer = answer % 65536

-- output j of a host's bytes
abbrev pub output_at : List ℕ → ℕ → ℤ
output_at outputs j = to_z w32 (little_endian 4 outputs (4 * j))

-- sample j of n, where numbers 1 to 8 do not apply and the j samples before it are accepted: the circuit, and the state that it is played from
pub record SampleAt (image bytes : List ℕ) (n : ℕ) (drives outputs : List ℕ) (j : ℕ) : Type 0 where
  pub parts : Parts
  pub opens : opening_of image ≡ opened parts
  pub conducts : conductances_fit parts plain ≡ true
  pub begins : Begins parts (state_in bytes) n drives outputs
  pub there : j < n
  pub state : State
  pub written : List ℕ
  pub run : RunOf parts drives (state_in bytes) outputs j state written

-- its network, its stored currents, its drives
module _ {image bytes : List ℕ} {n : ℕ} {drives outputs : List ℕ} {j : ℕ} (s : SampleAt image bytes n drives outputs j) where
  abbrev pub circuitOf : Network
  circuitOf = network_at s.parts plain

  abbrev pub storedBefore : ℕ → ℤ
  storedBefore = reading s.state.currents

  abbrev pub drivesOf : ℕ → ℤ
  drivesOf = drive_at drives s.parts.driven j
