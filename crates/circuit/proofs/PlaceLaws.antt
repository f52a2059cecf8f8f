-- Voltages taken over one after the other. Assumes nothing.
use mathlib.Core.Path.{◌≡◌, refl, ◌∙◌}
use mathlib.Core.List.{List}
use mathlib.Core.Logic.{◌⊎◌, inl, inr, ⊎_elim}
use Prim.Native.Nat.{ℕ, ◌+◌, ◌≤◌, ◌<◌}
use native.Mathlib.Omega.{arith}
use lib.IntN.{ℤ, pos}
use lib.ListN.{length, set, length-set}
use lib.Seq.{get_or-set_same, get_or-set_other}
use Rattle.units.proofs.Integers.{decide_n}
use Rattle.network.specs.Network.{reading}
use Rattle.circuit.specs.Places.{Taken}

module _ (from : List ℤ) (first : ℕ) (before : List ℤ) where
  pub taken_none : Taken from first first before before
  taken_none = record { long = refl; taken = λ i a b. absurd (omega arith); elsewhere = λ i h. refl }

  pub taken_more : (i : ℕ) (after : List ℤ) (v : ℤ) → first ≤ i → i < length before → v ≡ reading from i → Taken from first i before after → Taken from first (i + 1) before (set after i v)
  taken_more i after v begun there e t = record {
    long = length-set after i v ∙ t.long;
    taken = λ j a b. ⊎_elim
        (λ (h : i ≤ j). let is : j ≡ i = omega arith in rw is (get_or-set_same after i v (pos 0) (omega (arith, t.long)) ∙ e))
        (λ (h : j < i). get_or-set_other after i j v (pos 0) (λ is. omega arith) ∙ t.taken j a h) (decide_n i j);
    elsewhere = λ j h. get_or-set_other after i j v (pos 0) (apart j h) ∙ t.elsewhere j (⊎_elim (λ (a : j < first). inl a) (λ (b : i + 1 ≤ j). inr (omega arith)) h);
  }
    where
      apart : (j : ℕ) → (j < first) ⊎ (i + 1 ≤ j) → j ≡ i → ⊥
      apart j (inl a) e = omega arith
      apart j (inr b) e = omega arith
