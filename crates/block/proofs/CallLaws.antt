-- What a call answers, and the state's bytes afterwards. Assumes nothing.
use mathlib.Core.Path.{◌≡◌, refl, subst}
use mathlib.Core.List.{List}
use Prim.Native.Nat.{ℕ, zero, suc, ◌+◌, ◌*◌}
use native.Mathlib.Omega.{arith}
use lib.IntN.{ℤ}
use lib.ListN.{length}
use borrow.Author.Tests.{ne_eqb}
use Rattle.std.specs.Prelude.{Ok, Err}
use Rattle.units.specs.Number.{number_of}
use Rattle.units.specs.declared.number.Number.{Number}
use Rattle.units.specs.declared.number.Number.TheVariants as number
use Rattle.network.specs.Network.{Network}
use Rattle.image.specs.Meaning.{network_at}
use Rattle.image.specs.Setting.{plain}
use Rattle.image.specs.declared.parts.Parts.{Parts}
use Rattle.block.specs.Block.{places, StateLegal, PlaysOn, state-refused, plays-on}
use Rattle.block.specs.Call.{state_size, state_in, bytes_with, bytes_after, Called}
use Rattle.block.specs.Playing.{Admits, state_of}
use Rattle.block.specs.declared.call.State.{State}

-- bytes of another length are no state
pub state_misfit : (bytes : List ℕ) (N : Network) → (length bytes ≡ state_size → ⊥) → StateLegal N (state_in bytes) → ⊥
unfolding state_in
state_misfit bytes N not l = let z : ◌≡◌ {A = ℕ} 0 32 = rw (ne_eqb (length bytes) state_size not) at l.long in omega arith

-- the state's bytes are written when a sample was accepted, and else kept
pub after_some : (bytes : List ℕ) (y : State) (count : ℕ) → (count ≡ 0 → ⊥) → bytes_with bytes y.currents places ≡ bytes_after bytes y count
after_some bytes y zero not = absurd (not refl)
after_some bytes y (suc count) not = refl

pub after_none : (bytes : List ℕ) (y : State) (count : ℕ) → count ≡ 0 → bytes ≡ bytes_after bytes y count
after_none bytes y zero e = refl
after_none bytes y (suc count) e = absurd (omega arith)

module _ (image bytes : List ℕ) (n : ℕ) (drives outputs : List ℕ) where
  -- refused by the image
  pub called_refused : (k : Number) → Admits image (Err k) → Called image bytes n drives outputs (number_of k * 65536 + 0) bytes outputs
  called_refused k refuses = record { number = number_of k; count = 0; after = state_in bytes; plays = refuses.1 (state_in bytes) n drives outputs; packed = omega arith; kept = refl }

  module _ (parts : Parts) (admits : Admits image (Ok parts)) where
    -- refused for its length
    pub called_misfit : (length bytes ≡ state_size → ⊥) → Called image bytes n drives outputs (number_of number.State * 65536 + 0) bytes outputs
    called_misfit not = record { number = 7; count = 0; after = state_in bytes; plays = plays-on admits.0 admits.1 (state-refused (state_misfit bytes (network_at parts plain) not)); packed = refl; kept = refl }

    -- played
    pub called : (bytes' : List ℕ) (k : Number) (count : ℕ) (x y : List ℤ) (o : List ℕ) → x ≡ (state_in bytes).currents → PlaysOn parts (state_of x) n drives outputs (number_of k) count (state_of y) o → bytes' ≡ bytes_after bytes (state_of y) count → Called image bytes n drives outputs (number_of k * 65536 + count) bytes' o
    called bytes' k count x y o e p kept = record {
      number = number_of k;
      count = count;
      after = state_of y;
      plays = plays-on admits.0 admits.1 (subst (λ (z : List ℤ). PlaysOn parts (state_of z) n drives outputs (number_of k) count (state_of y) o) e p);
      packed = refl;
      kept = kept;
    }
