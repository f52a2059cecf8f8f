-- Halving: a place in a rising list, found by looking in the middle of what is left. Said of lists alone, so that it holds of whatever stands in
-- one: a curve's breakpoints, the rows of a table. Assumes nothing.
use mathlib.Core.Path.{◌≡◌, refl}
use mathlib.Core.Bool.{Bool, true, false, cond}
use mathlib.Core.List.{List, [], ◌∷◌}
use mathlib.Core.Logic.{⊎_elim}
use Prim.Native.Nat.{ℕ, zero, suc, ◌+◌, ◌-◌, ◌≤◌, ◌<◌}
use native.Mathlib.Omega.{arith}
use lib.IntN.{ℤ}
use lib.ListN.{length}
use lib.Signed.{◌≤ℤ◌, ◌<ℤ◌, le_z, lt_z}
use Rattle.units.proofs.Integers.{signs, le_z_true, le_z_false, lt_z_true, lt_z_false, decide_n}
use Rattle.network.specs.Network.{reading, Rising}
use Rattle.stretch.specs.Stretch.{stretch_of}
use Rattle.stretch.proofs.StretchLaws.{stretch_there}

-- ---- why it is right

-- "at or below v" holds up to place j and never after it
pub record UpTo (list : List ℤ) (v : ℤ) (j : ℕ) : Type 0 where
  pub before : (i : ℕ) → i < j → reading list i ≤ℤ v
  pub after : (i : ℕ) → j ≤ i → i < length list → v <ℤ reading list i

-- the first of a rising list is its least
first_least : (b : ℤ) (list : List ℤ) → Rising (b ∷ list) → (i : ℕ) → i < length list → b <ℤ reading list i
first_least b list rising zero h = rising 0 (omega arith)
first_least b list rising (suc i) h =
    let low = first_least b list rising i (omega arith) in
    let next = rising (suc i) (omega arith) in
    omega signs

-- in a rising list it holds up to v's stretch and never after it
pub up_to : (list : List ℤ) (v : ℤ) → Rising list → UpTo list v (stretch_of list v)
unfolding stretch_of
up_to [] v rising = record { before = λ i h. absurd (omega arith); after = λ i h l. absurd (omega arith) }
up_to (b ∷ list) v rising = go (up_to list v (λ j h. rising (suc j) (omega arith))) (le_z b v) refl
  where
    go : UpTo list v (stretch_of list v) → (t : Bool) → le_z b v ≡ t → UpTo (b ∷ list) v (cond t (suc (stretch_of list v)) 0)
    go rest true e = record { before = before; after = after }
      where
        before : (i : ℕ) → i < suc (stretch_of list v) → reading (b ∷ list) i ≤ℤ v
        before zero h = le_z_true b v e
        before (suc i) h = rest.before i (omega arith)

        after : (i : ℕ) → suc (stretch_of list v) ≤ i → i < suc (length list) → v <ℤ reading (b ∷ list) i
        after zero h l = absurd (omega arith)
        after (suc i) h l = rest.after i (omega arith) (omega arith)
    go rest false e = record { before = λ i h. absurd (omega arith); after = after }
      where
        after : (i : ℕ) → 0 ≤ i → i < suc (length list) → v <ℤ reading (b ∷ list) i
        after zero h l = le_z_false b v e
        after (suc i) h l =
            let below = le_z_false b v e in
            let least = first_least b list rising i (omega arith) in
            omega signs

-- ---- the search

-- what is known between two looks: v's stretch is j or at most n later
pub record Between (list : List ℤ) (v : ℤ) (j n : ℕ) : Type 0 where
  pub from : j ≤ stretch_of list v
  pub to : stretch_of list v ≤ j + n
  pub there : j + n ≤ length list

module _ (list : List ℤ) (v : ℤ) (rising : Rising list) where
  -- a look at place i: v's stretch is at or before it, or after it
  pub look_stops : (i : ℕ) → lt_z v (reading list i) ≡ true → stretch_of list v ≤ i
  look_stops i e =
      let above = lt_z_true v (reading list i) e in
      ⊎_elim (λ h. h) (λ (h : i < stretch_of list v). let below = (up_to list v rising).before i h in absurd (omega signs)) (decide_n (stretch_of list v) i)

  pub look_passes : (i : ℕ) → i < length list → lt_z v (reading list i) ≡ false → i < stretch_of list v
  look_passes i l e =
      let below = lt_z_false v (reading list i) e in
      ⊎_elim (λ (h : stretch_of list v ≤ i). let above = (up_to list v rising).after i h l in absurd (omega signs)) (λ h. h) (decide_n (stretch_of list v) i)

  -- a look at the last of the first half: whatever it shows, as many are left as the other half has
  pub between_half : (j n half : ℕ) → Between list v j n → 0 < half → half + half ≤ n → Between list v (j + cond (lt_z v (reading list (j + half - 1))) 0 half) (n - half)
  between_half j n half b some fits = go (lt_z v (reading list (j + half - 1))) refl
    where
      at : ℕ
      at = j + half - 1

      go : (t : Bool) → lt_z v (reading list at) ≡ t → Between list v (j + cond t 0 half) (n - half)
      go true e = record { from = omega (arith, b.from); to = omega (arith, look_stops at e); there = omega (arith, b.there) }
      go false e = record { from = omega (arith, look_passes at (omega (arith, b.there)) e); to = omega (arith, b.to); there = omega (arith, b.there) }

-- before the first look
pub between_all : (list : List ℤ) (v : ℤ) (j n : ℕ) → j ≡ 0 → n ≡ length list → Between list v j n
between_all list v j n none all = record { from = omega arith; to = omega (arith, stretch_there list v); there = omega arith }
