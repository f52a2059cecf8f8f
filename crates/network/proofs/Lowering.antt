-- Lowering one node of an assignment, and that a store into a list of voltages is such a lowering. Assumes nothing.
use mathlib.Core.Path.{◌≡◌, refl, fun_ext}
use mathlib.Core.Bool.{Bool, true, false, cond}
use mathlib.Core.List.{List}
use mathlib.Core.Logic.{◌⊎◌, inl, inr, ⊎_elim}
use Prim.Native.Nat.{ℕ, suc, ◌<◌}
use lib.Dec.{eqb}
use lib.ListN.{length, set}
use lib.Seq.{get_or-set_same, get_or-set_other}
use borrow.Author.Tests.{eqb-true, eqb-false}
use lib.IntN.{ℤ, pos, ◌-ℤ◌}
use lib.Signed.{◌≤ℤ◌}
use Rattle.units.proofs.Integers.{signs, sub_law, pos_law}
use Rattle.network.specs.Network.{reading}
use Rattle.network.specs.Search.{lowered}

-- a change at one node i: node j is that one, or it is as it was
pub one_node : (i j : ℕ) (a b : ℤ) → ((j ≡ i) × (cond (eqb j i) a b ≡ a)) ⊎ ((j ≡ i → ⊥) × (cond (eqb j i) a b ≡ b))
one_node i j a b = go (eqb j i) refl
  where
    go : (t : Bool) → eqb j i ≡ t → ((j ≡ i) × (cond t a b ≡ a)) ⊎ ((j ≡ i → ⊥) × (cond t a b ≡ b))
    go true e = inl (eqb-true j i e, refl)
    go false e = inr (eqb-false j i e, refl)

module _ (w : ℕ → ℤ) (i t : ℕ) where
  pub lowered_law : (j : ℕ) → ((j ≡ i) × (lowered w i t j ≡ w j -ℤ pos t)) ⊎ ((j ≡ i → ⊥) × (lowered w i t j ≡ w j))
  unfolding lowered
  lowered_law j = one_node i j (w j -ℤ pos t) (w j)

  pub lowered_here : lowered w i t i ≡ w i -ℤ pos t
  lowered_here = ⊎_elim (λ (e : (i ≡ i) × (lowered w i t i ≡ w i -ℤ pos t)). e.1) (λ (e : (i ≡ i → ⊥) × (lowered w i t i ≡ w i)). absurd (e.0 refl)) (lowered_law i)

  pub lowered_away : (j : ℕ) → (j ≡ i → ⊥) → lowered w i t j ≡ w j
  lowered_away j n = ⊎_elim (λ (e : (j ≡ i) × (lowered w i t j ≡ w j -ℤ pos t)). absurd (n e.0)) (λ (e : (j ≡ i → ⊥) × (lowered w i t j ≡ w j)). e.1) (lowered_law j)

  pub lowered_under : (j : ℕ) → lowered w i t j ≤ℤ w j
  lowered_under j = ⊎_elim
      (λ (e : (j ≡ i) × (lowered w i t j ≡ w j -ℤ pos t)). omega (signs, sub_law (w j) (pos t), pos_law t))
      (λ (e : (j ≡ i → ⊥) × (lowered w i t j ≡ w j)). omega signs) (lowered_law j)

  pub lowered_further : (j : ℕ) → lowered w i (suc t) j ≤ℤ lowered w i t j
  unfolding lowered
  lowered_further j = go (eqb j i)
    where
      go : (b : Bool) → cond b (w j -ℤ pos (suc t)) (w j) ≤ℤ cond b (w j -ℤ pos t) (w j)
      go true = omega (signs, sub_law (w j) (pos t), sub_law (w j) (pos (suc t)), pos_law t, pos_law (suc t))
      go false = omega signs

-- lowering by nothing changes nothing
pub lowered_none : (w : ℕ → ℤ) (i : ℕ) → lowered w i 0 ≡ w
lowered_none w i = fun_ext (λ j. ⊎_elim
    (λ (e : (j ≡ i) × (lowered w i 0 j ≡ w j -ℤ pos 0)). omega (signs, sub_law (w j) (pos 0), pos_law 0))
    (λ (e : (j ≡ i → ⊥) × (lowered w i 0 j ≡ w j)). e.1) (lowered_law w i 0 j))

-- a store of t less is a lowering by t
pub store_lowers : (l : List ℤ) (i t : ℕ) → i < length l → reading (set l i (reading l i -ℤ pos t)) ≡ lowered (reading l) i t
unfolding lowered
store_lowers l i t h = fun_ext (λ j. go j (eqb j i) refl)
  where
    go : (j : ℕ) (b : Bool) → eqb j i ≡ b → reading (set l i (reading l i -ℤ pos t)) j ≡ cond b (reading l j -ℤ pos t) (reading l j)
    go j true e = rw (eqb-true j i e) (get_or-set_same l i _ (pos 0) h)
    go j false e = get_or-set_other l i j _ (pos 0) (eqb-false j i e)
