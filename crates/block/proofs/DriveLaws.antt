-- Drives put at the driven nodes, one after the other. Assumes nothing.
use mathlib.Core.Path.{◌≡◌, refl, ◌∙◌}
use mathlib.Core.List.{List}
use mathlib.Core.Logic.{◌⊎◌, inl, inr, ⊎_elim}
use Prim.Native.Nat.{ℕ, suc, ◌+◌, ◌≤◌, ◌<◌}
use native.Mathlib.Omega.{arith}
use lib.IntN.{ℤ, pos}
use lib.ListN.{length, set, length-set}
use lib.Seq.{get_or-set_same, get_or-set_other}
use Rattle.units.proofs.Integers.{decide_n}
use Rattle.block.specs.Block.{drive_at}
use Rattle.block.specs.Drives.{Placed}

module _ (drives : List ℕ) (driven j : ℕ) (before : List ℤ) where
  pub placed_none : Placed drives driven j 0 before before
  placed_none = record { long = refl; at = λ i h. absurd (omega arith); elsewhere = λ i h. refl }

  pub placed_more : (n : ℕ) (after : List ℤ) (v : ℤ) → 1 + n < length before → v ≡ drive_at drives driven j n → Placed drives driven j n before after → Placed drives driven j (n + 1) before (set after (1 + n) v)
  placed_more n after v there e p = record {
    long = simp length-set p.long;
    at = λ i h. ⊎_elim
        (λ (m : n ≤ i). let is : i ≡ n = omega arith in let place : 1 + n ≡ suc n = omega arith in rw (is, place) (get_or-set_same after (suc n) v (pos 0) (omega (arith, p.long)) ∙ e))
        (λ (m : i < n). get_or-set_other after (1 + n) (suc i) v (pos 0) (λ is. omega arith) ∙ p.at i m) (decide_n n i);
    elsewhere = λ i h. get_or-set_other after (1 + n) i v (pos 0) (apart i h) ∙ p.elsewhere i (⊎_elim (λ (z : i ≡ 0). inl z) (λ (m : n + 1 < i). inr (omega arith)) h);
  }
    where
      apart : (i : ℕ) → (i ≡ 0) ⊎ (n + 1 < i) → i ≡ 1 + n → ⊥
      apart i (inl z) e = omega arith
      apart i (inr m) e = omega arith
