-- `numbers_where` names every number of which it holds, once and in rising order; and what is zero for all others adds up over the named ones to what it
-- adds up to over all. Assumes nothing.
use Rattle.std.proofs.Common.{◌≡◌, ℕ, zero, suc, ◌+◌, ◌<◌, ◌≤◌, Bool, true, false, cond, List, [], ◌∷◌, ◌++◌, length, get_or, ℤ, pos, ◌+ℤ◌, sym, refl, ap, ◌∙◌, ⊎_elim, append-nil, le_refl, arith, length-append}
use lib.IntN.{+ℤ_idr}
use lib.ListN.{get_or-append}
use lib.Seq.{get_or-append_seam}
use Rattle.units.specs.Integer.{sum, total}
use Rattle.units.specs.Table.{numbers_where}
use Rattle.units.proofs.Integers.{decide_n}
use Rattle.units.proofs.Sizes.{sum_same, sum_more, total_same, total_more}

module _ (f : ℕ → Bool) where
  -- the number at place t
  abbrev at : ℕ → ℕ → ℕ
  at n t = get_or (numbers_where f n) t 0

  abbrev many : ℕ → ℕ
  many n = length (numbers_where f n)

  -- ---- one number more

  pub named_none : length (numbers_where f 0) ≡ 0
  unfolding numbers_where
  named_none = refl

  pub named_more : (n : ℕ) → numbers_where f (suc n) ≡ numbers_where f n ++ cond (f n) (n ∷ []) []
  unfolding numbers_where
  named_more n = refl

  -- those before it stay where they are
  before : (n t : ℕ) → t < many n → at (suc n) t ≡ at n t
  before n t h = ap (λ (l : List ℕ). get_or l t 0) (named_more n) ∙ get_or-append (numbers_where f n) (cond (f n) (n ∷ []) []) 0 t h

  -- it comes last, or is not there
  pub named_many : (n : ℕ) → length (numbers_where f (suc n)) ≡ length (numbers_where f n) + cond (f n) 1 0
  named_many n = ap (λ (l : List ℕ). length l) (named_more n) ∙ length-append (numbers_where f n) (cond (f n) (n ∷ []) []) ∙ go (f n)
    where
      go : (b : Bool) → many n + length (cond b (n ∷ []) []) ≡ many n + cond b 1 0
      go true = refl
      go false = refl

  taken : (n : ℕ) → f n ≡ true → many (suc n) ≡ many n + 1
  taken n e = rw e at (named_many n)

  last : (n : ℕ) → f n ≡ true → at (suc n) (many n) ≡ n
  last n e = ap (λ (l : List ℕ). get_or l (many n) 0) (named_more n) ∙ rw e (get_or-append_seam (numbers_where f n) n [] 0)

  left : (n : ℕ) → f n ≡ false → numbers_where f (suc n) ≡ numbers_where f n
  left n e = named_more n ∙ rw e (append-nil (numbers_where f n))

  new_is : (n t : ℕ) → many n ≤ t → t < many (suc n) → (t ≡ many n) × (f n ≡ true)
  new_is n t low high = go (f n) refl
    where
      go : (b : Bool) → f n ≡ b → (t ≡ many n) × (f n ≡ true)
      go true e = (omega (arith, taken n e), e)
      go false e = absurd (omega (arith, ap (λ (l : List ℕ). length l) (left n e)))

  pub named_grow : (m n : ℕ) → m ≤ n → length (numbers_where f m) ≤ length (numbers_where f n)
  named_grow m zero h = let e : m ≡ 0 = omega arith in rw e (le_refl _)
  named_grow m (suc n) h = ⊎_elim
      (λ (l : m ≤ n). omega (arith, named_grow m n l, named_many n))
      (λ (l : n < m). let e : m ≡ suc n = omega arith in rw e (le_refl _))
      (decide_n m n)

  -- ---- exactly those of which it holds, once, in rising order

  pub named_holds : (n t : ℕ) → t < length (numbers_where f n) → (get_or (numbers_where f n) t 0 < n) × (f (get_or (numbers_where f n) t 0) ≡ true)
  named_holds zero t h = absurd (omega (arith, named_none))
  named_holds (suc n) t h = ⊎_elim
      (λ (new : many n ≤ t).
      let is = new_is n t new h in
      let e : at (suc n) t ≡ n = ap (at (suc n)) is.0 ∙ last n is.1 in
      (omega (arith, e), ap f e ∙ is.1))
      (λ (old : t < many n).
      let is = named_holds n t old in
      let e : at (suc n) t ≡ at n t = before n t old in
      (omega (arith, e, is.0), ap f e ∙ is.1))
      (decide_n (many n) t)

  pub named_there : (n j : ℕ) → j < n → f j ≡ true → (t : ℕ) × (t < length (numbers_where f n)) × (get_or (numbers_where f n) t 0 ≡ j)
  named_there zero j h e = absurd (omega arith)
  named_there (suc n) j h e = ⊎_elim
      (λ (q : n ≤ j).
      let is : n ≡ j = omega arith in
      let holds : f n ≡ true = ap f is ∙ e in
      (many n, omega (arith, taken n holds), last n holds ∙ is))
      (λ (q : j < n).
      let place = named_there n j q e in
      (place.0, omega (arith, place.1, named_many n), before n place.0 place.1 ∙ place.2))
      (decide_n n j)

  pub named_rising : (n t u : ℕ) → t < u → u < length (numbers_where f n) → get_or (numbers_where f n) t 0 < get_or (numbers_where f n) u 0
  named_rising zero t u l h = absurd (omega (arith, named_none))
  named_rising (suc n) t u l h = ⊎_elim
      (λ (new : many n ≤ u).
      let is = new_is n u new h in
      let e : at (suc n) u ≡ n = ap (at (suc n)) is.0 ∙ last n is.1 in
      let old : t < many n = omega (arith, is.0) in
      omega (arith, e, before n t old, (named_holds n t old).0))
      (λ (old : u < many n). omega (arith, before n u old, before n t (omega arith), named_rising n t u l old))
      (decide_n (many n) u)

  pub named_few : (n : ℕ) → length (numbers_where f n) ≤ n
  named_few zero = omega (arith, named_none)
  named_few (suc n) = go (named_few n) (f n) refl
    where
      go : many n ≤ n → (b : Bool) → f n ≡ b → many (suc n) ≤ suc n
      go few true e = omega (arith, taken n e)
      go few false e = omega (arith, ap (λ (l : List ℕ). length l) (left n e))

  -- the first t of them are all of those below some number
  pub named_part : (n t : ℕ) → t ≤ length (numbers_where f n) → (m : ℕ) × (m ≤ n) × (length (numbers_where f m) ≡ t) × ((u : ℕ) → u < t → get_or (numbers_where f n) u 0 ≡ get_or (numbers_where f m) u 0)
  named_part zero t h = (0, omega arith, omega (arith, named_none), λ u l. absurd (omega (arith, named_none)))
  named_part (suc n) t h = ⊎_elim
      (λ (l : t ≤ many n).
      let is = named_part n t l in
      (is.0, omega (arith, is.1), is.2, λ u k. before n u (omega arith) ∙ is.3 u k))
      (λ (l : many n < t). (suc n, omega arith, omega (arith, go (f n) refl), λ u k. refl))
      (decide_n t (many n))
    where
      go : (b : Bool) → f n ≡ b → many (suc n) ≤ many n + 1
      go true e = omega (arith, taken n e)
      go false e = omega (arith, ap (λ (l : List ℕ). length l) (left n e))

  -- ---- what is zero for all others adds up the same over those that are named

  module _ (g : ℕ → ℤ) (zeros : (j : ℕ) → f j ≡ false → g j ≡ pos 0) where
    pub sum_named : (n : ℕ) → sum (λ (t : ℕ). g (get_or (numbers_where f n) t 0)) (length (numbers_where f n)) ≡ sum g n
    unfolding sum
    sum_named zero = rw named_none
    sum_named (suc n) = go (sum_named n) (f n) refl
      where
        h : ℕ → ℤ
        h t = g (at (suc n) t)

        go : sum (λ (t : ℕ). g (at n t)) (many n) ≡ sum g n → (b : Bool) → f n ≡ b → sum h (many (suc n)) ≡ sum g n +ℤ g n
        go so true e =
            ap (sum h) (taken n e)
            ∙ sum_more h (many n)
            ∙ rw (sum_same h (λ (t : ℕ). g (at n t)) (many n) (λ t l. ap g (before n t l)), so, last n e)
        go so false e = ap (λ (l : List ℕ). sum (λ (t : ℕ). g (get_or l t 0)) (length l)) (left n e) ∙ so ∙ rw (zeros n e) (sym (+ℤ_idr (sum g n)))

    -- .. and over the first t of them to what it does below some number
    pub sum_named_part : (n t : ℕ) → t ≤ length (numbers_where f n) → (m : ℕ) × (m ≤ n) × (sum (λ (u : ℕ). g (get_or (numbers_where f n) u 0)) t ≡ sum g m)
    sum_named_part n t h =
        let is = named_part n t h in
        let m = is.0 in
        (m, is.1, sum_same (λ (u : ℕ). g (at n u)) (λ (u : ℕ). g (at m u)) t (λ u l. ap g (is.3 u l)) ∙ ap (sum (λ (u : ℕ). g (at m u))) (sym is.2) ∙ sum_named m)

  module _ (g : ℕ → ℕ) (zeros : (j : ℕ) → f j ≡ false → g j ≡ 0) where
    pub total_named : (n : ℕ) → total (λ (t : ℕ). g (get_or (numbers_where f n) t 0)) (length (numbers_where f n)) ≡ total g n
    unfolding total
    total_named zero = rw named_none
    total_named (suc n) = go (total_named n) (f n) refl
      where
        h : ℕ → ℕ
        h t = g (at (suc n) t)

        go : total (λ (t : ℕ). g (at n t)) (many n) ≡ total g n → (b : Bool) → f n ≡ b → total h (many (suc n)) ≡ total g n + g n
        go so true e =
            ap (total h) (taken n e)
            ∙ total_more h (many n)
            ∙ rw (total_same h (λ (t : ℕ). g (at n t)) (many n) (λ t l. ap g (before n t l)), so, last n e)
        go so false e = ap (λ (l : List ℕ). total (λ (t : ℕ). g (get_or l t 0)) (length l)) (left n e) ∙ so ∙ omega (arith, zeros n e)
