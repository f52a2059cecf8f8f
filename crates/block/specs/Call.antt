-- The block as a host written in C calls it: a state as bytes, one packed number back. Assumes nothing.
use Rattle.std.specs.Prelude.{◌≡◌, cond, List, [], ℕ, zero, suc, ◌+◌, ◌*◌, eqb, ℤ, length}
use Rattle.std.specs.Int.{w64}
use Rattle.std.proofs.Common.{to_z, of_z}
use Rattle.units.specs.Bytes.{little_endian, written}
use Rattle.units.specs.Table.{tabulate}
use Rattle.network.specs.Network.{reading}
use Rattle.block.specs.Block.{places, Plays}
use Rattle.block.specs.declared.call.State.{State}

-- how many bytes a state has: eight for each stored current
abbrev pub state_size : ℕ
state_size = 8 * places

-- the state in a host's bytes; bytes of another length hold no stored currents
unfoldable pub state_in : List ℕ → State
state_in bytes = record { currents = cond (eqb (length bytes) state_size) (tabulate (λ (j : ℕ). to_z w64 (little_endian 8 bytes (8 * j))) places) [] }

-- the host's bytes with the first n stored currents of x in them
unfoldable pub bytes_with : List ℕ → List ℤ → ℕ → List ℕ
bytes_with bytes x zero = bytes
bytes_with bytes x (suc n) = written 8 (bytes_with bytes x n) (8 * n) (of_z w64 (reading x n))

-- the host's bytes afterwards: written only when a sample was accepted
abbrev pub bytes_after : List ℕ → State → ℕ → List ℕ
bytes_after bytes x zero = bytes
bytes_after bytes x (suc count) = bytes_with bytes x.currents places

-- what the call answers and leaves
pub record Called (image bytes : List ℕ) (n : ℕ) (drives outputs : List ℕ) (answer : ℕ) (bytes' outputs' : List ℕ) : Type 0 where
  pub number : ℕ
  pub count : ℕ
  pub after : State
  pub plays : Plays image (state_in bytes) n drives outputs number count after outputs'
  pub packed : answer ≡ number * 65536 + count
  pub kept : bytes' ≡ bytes_after bytes after count
