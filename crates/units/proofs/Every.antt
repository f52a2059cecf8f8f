-- Laws of the tests: what `every` and `between` say when they are true, and what makes them false. Assumes nothing.
use Rattle.std.proofs.Common.{◌≡◌, ℕ, zero, suc, ◌+◌, ◌<◌, ◌≤◌, Bool, true, false, ◌&&◌, leb, ◌⊎◌, sym, refl, ap, ◌∙◌, inl, inr, ⊎_elim, add-one, arith, leb-true, List, length, get_or, take, ◌-◌}
use mathlib.Core.Bool.{false≢true}
use Rattle.std.specs.List.{list_all, IsAllAdjacentAnswer}
use lib.Seq.{get_or-take, length-take-le}
use Rattle.std.proofs.lemmas.List.Folds.{list_all_more}
use Rattle.units.specs.Table.{between, every}

-- both of two tests
pub both : {a b : Bool} → a && b ≡ true → (a ≡ true) × (b ≡ true)
both {a = true} e = (refl, e)
both {a = false} e = absurd (false≢true e)

-- a test beside one that fails
pub and_no : (b : Bool) → b && false ≡ false
and_no true = refl
and_no false = refl

pub between_says : (low high n : ℕ) → between low high n ≡ true → (low ≤ n) × (n ≤ high)
between_says low high n e =
    let t = both {a = leb low n} {b = leb n high} e in
    (leb-true low n t.0, leb-true n high t.1)

-- a place below n + 1 is n or below it
last_or : (n i : ℕ) → i < suc n → (i ≡ n) ⊎ (i < n)
last_or zero i h = inl (omega arith)
last_or (suc n) zero h = inr (omega arith)
last_or (suc n) (suc i) h = ⊎_elim (λ (e : i ≡ n). inl (ap suc e)) (λ (l : i < n). inr (omega arith)) (last_or n i (omega arith))

-- none fails where there is none to test
pub every_none : (f : ℕ → Bool) → every f 0 ≡ true
unfolding every
every_none f = refl

-- one more, after all below it
pub every_more : (f : ℕ → Bool) (n : ℕ) → every f n ≡ true → f n ≡ true → every f (n + 1) ≡ true
unfolding every
every_more f n e h = rw (add-one, e) h

-- each of them
pub every_each : (f : ℕ → Bool) (n : ℕ) → ((i : ℕ) → i < n → f i ≡ true) → every f n ≡ true
unfolding every
every_each f zero each = refl
every_each f (suc n) each = rw (every_each f n (λ i l. each i (omega arith)), each n (omega arith))

-- what every says of each
pub every_says : (f : ℕ → Bool) (n i : ℕ) → every f n ≡ true → i < n → f i ≡ true
unfolding every
every_says f zero i e h = absurd (omega arith)
every_says f (suc n) i e h =
    let t = both {a = every f n} {b = f n} e in
    ⊎_elim (λ (q : i ≡ n). rw q t.1) (λ (l : i < n). every_says f n i t.0 l) (last_or n i h)

-- one that fails
pub every_fails : (f : ℕ → Bool) (n i : ℕ) → i < n → f i ≡ false → every f n ≡ false
every_fails f n i h e = go (every f n) refl
  where
    go : (b : Bool) → every f n ≡ b → every f n ≡ false
    go false q = q
    go true q = absurd (false≢true (sym e ∙ every_says f n i q h))

-- tests that agree below n
pub every_same : (f g : ℕ → Bool) (n : ℕ) → ((i : ℕ) → i < n → f i ≡ g i) → every f n ≡ every g n
unfolding every
every_same f g zero same = refl
every_same f g (suc n) same = rw (every_same f g n (λ i l. same i (omega arith)), same n (omega arith))

-- std's test of each element of a list's first n is that of each place below n
pub every_of_all : {A : Type 0} (p : A → Bool) (xs : List A) (d : A) (n : ℕ) → n ≤ length xs → list_all p (take n xs) ≡ every (λ (j : ℕ). p (get_or xs j d)) n
unfolding every
every_of_all p xs d zero few = refl
every_of_all p xs d (suc n) few = rw (← add-one, list_all_more p xs n d (omega arith), every_of_all p xs d n (omega arith))

-- and its test of each of them and the next
pub every_of_adjacent : {A : Type 0} (p : A → A → Bool) (xs : List A) (d : A) (n : ℕ) (r : Bool) → n ≤ length xs → IsAllAdjacentAnswer (λ (x y : A) (b : Bool). b ≡ p x y) (take n xs) r → r ≡ every (λ (j : ℕ). p (get_or xs j d) (get_or xs (j + 1) d)) (n - 1)
every_of_adjacent {A} p xs d n r few all = rw (length-take-le n xs few) at (whole (take n xs) r all) ∙ every_same _ _ (n - 1) (λ j h. rw (get_or-take n xs j d (omega arith), get_or-take n xs (j + 1) d (omega arith)))
  where
    whole : (ys : List A) (r : Bool) → IsAllAdjacentAnswer (λ (x y : A) (b : Bool). b ≡ p x y) ys r → r ≡ every (λ (j : ℕ). p (get_or ys j d) (get_or ys (j + 1) d)) (length ys - 1)
    whole ys true all = sym (every_each _ (length ys - 1) (λ j h. sym (all j d (omega arith))))
    whole ys false (k, h, none) = sym (every_fails _ (length ys - 1) k (omega arith) (sym (none d)))
