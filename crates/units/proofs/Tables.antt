-- Laws of lists that are made place by place: `tabulate`, and the padded arrays that the code fills. Assumes nothing.
use Rattle.std.proofs.Common.{◌≡◌, ℕ, zero, suc, ◌+◌, ◌<◌, ◌≤◌, cond, ltb, ◌⊎◌, List, [], ◌∷◌, ◌++◌, length, get_or, set, replicate, sym, refl, ap, ◌∙◌, inl, inr, ⊎_elim, arith, length-set, get_or-set_other, get_or-set_same, ext_get_or, le-ltb, lt-ltb}
use lib.ListN.{length-replicate, get_or-replicate, get_or-eq_default}
use denote.Param.Members.{Mut, Called}
use Rattle.std.specs.Array.{IsFromFnResult, IsFromFnResultFrom}
use Rattle.units.proofs.Integers.{decide_n}
use Rattle.units.specs.Table.{tabulate, padded, overlaid}

-- what stands at a place that is there goes by no default
pub get_d_any {ℓ} : {A : Type ℓ} (l : List A) (i : ℕ) (d e : A) → i < length l → get_or l i d ≡ get_or l i e
get_d_any [] i d e h = absurd (omega arith)
get_d_any (x ∷ l) zero d e h = refl
get_d_any (x ∷ l) (suc i) d e h = get_d_any l i d e (omega arith)

-- where nothing stands, what is read of the two agrees
pub getD-alike {ℓ m} : {A : Type ℓ} {B : Type m} (f : A → B) (l : List A) (i : ℕ) (d e : A) → f d ≡ f e → f (get_or l i d) ≡ f (get_or l i e)
getD-alike f [] i d e same = same
getD-alike f (x ∷ l) zero d e same = refl
getD-alike f (x ∷ l) (suc i) d e same = getD-alike f l i d e same

-- ---- tabulate

pub tabulate-length {ℓ} : {A : Type ℓ} (f : ℕ → A) (n : ℕ) → length (tabulate f n) ≡ n
unfolding tabulate
tabulate-length f zero = refl
tabulate-length f (suc n) = ap suc (tabulate-length (λ (j : ℕ). f (suc j)) n)

pub tabulate-at {ℓ} : {A : Type ℓ} (f : ℕ → A) (n i : ℕ) (d : A) → i < n → get_or (tabulate f n) i d ≡ f i
unfolding tabulate
tabulate-at f zero i d h = absurd (omega arith)
tabulate-at f (suc n) zero d h = refl
tabulate-at f (suc n) (suc i) d h = tabulate-at (λ (j : ℕ). f (suc j)) n i d (omega arith)

pub tabulate-past {ℓ} : {A : Type ℓ} (f : ℕ → A) (n i : ℕ) (d : A) → n ≤ i → get_or (tabulate f n) i d ≡ d
tabulate-past f n i d h = get_or-eq_default (tabulate f n) d (omega (arith, tabulate-length f n))

-- the same places
pub tabulate-same {ℓ} : {A : Type ℓ} (f g : ℕ → A) (n : ℕ) → ((i : ℕ) → i < n → f i ≡ g i) → tabulate f n ≡ tabulate g n
unfolding tabulate
tabulate-same f g zero same = refl
tabulate-same f g (suc n) same = rw (same 0 (omega arith)) (ap (◌∷◌ (g 0)) (tabulate-same (λ (j : ℕ). f (suc j)) (λ (j : ℕ). g (suc j)) n (λ i h. same (suc i) (omega arith))))

-- ---- padded

module _ {ℓ} {A : Type ℓ} (none : A) (size : ℕ) (f : ℕ → A) where
  pub padded_length : (n : ℕ) → length (padded none size f n) ≡ size
  unfolding padded
  padded_length n = tabulate-length (λ (j : ℕ). cond (ltb j n) (f j) none) size

  pub padded_at : (n i : ℕ) → n ≤ size → i < n → get_or (padded none size f n) i none ≡ f i
  unfolding padded
  padded_at n i s h = tabulate-at (λ (j : ℕ). cond (ltb j n) (f j) none) size i none (omega arith) ∙ rw (lt-ltb i n h)

  pub padded_past : (n i : ℕ) → n ≤ i → get_or (padded none size f n) i none ≡ none
  unfolding padded
  padded_past n i h =
      ⊎_elim
      (λ (l : size ≤ i). tabulate-past (λ (j : ℕ). cond (ltb j n) (f j) none) size i none l)
      (λ (l : i < size). tabulate-at (λ (j : ℕ). cond (ltb j n) (f j) none) size i none l ∙ rw (le-ltb i n h))
      (decide_n size i)

  -- the array that the code begins with
  pub padded_none : replicate size none ≡ padded none size f 0
  padded_none =
      ext_get_or none (replicate size none) (padded none size f 0)
      (length-replicate {A = A} size none ∙ sym (padded_length 0))
      (λ i h. get_or-replicate size i none none (omega (arith, length-replicate {A = A} size none)) ∙ sym (padded_past 0 i (omega arith)))

  -- one more place is filled
  pub padded_more : (n : ℕ) (v : A) → n < size → v ≡ f n → set (padded none size f n) n v ≡ padded none size f (n + 1)
  padded_more n v h e =
      ext_get_or none (set (padded none size f n) n v) (padded none size f (n + 1))
      (length-set (padded none size f n) n v ∙ padded_length n ∙ sym (padded_length (n + 1)))
      (λ i l. ⊎_elim (λ (q : n ≤ i). ⊎_elim (λ (r : suc n ≤ i). past i r) (λ (r : i < suc n). here i (omega arith)) (decide_n (suc n) i)) (λ (q : i < n). before i q) (decide_n n i))
    where
      before : (i : ℕ) → i < n → get_or (set (padded none size f n) n v) i none ≡ get_or (padded none size f (n + 1)) i none
      before i q =
          get_or-set_other (padded none size f n) n i v none (λ r. omega arith)
          ∙ padded_at n i (omega arith) q
          ∙ sym (padded_at (n + 1) i (omega arith) (omega arith))

      here : (i : ℕ) → i ≡ n → get_or (set (padded none size f n) n v) i none ≡ get_or (padded none size f (n + 1)) i none
      here i q =
          rw q
          (get_or-set_same (padded none size f n) n v none (omega (arith, padded_length n))
          ∙ e
          ∙ sym (padded_at (n + 1) n (omega arith) (omega arith)))

      past : (i : ℕ) → suc n ≤ i → get_or (set (padded none size f n) n v) i none ≡ get_or (padded none size f (n + 1)) i none
      past i q =
          get_or-set_other (padded none size f n) n i v none (λ r. omega arith)
          ∙ padded_past n i (omega arith)
          ∙ sym (padded_past (n + 1) i (omega arith))

-- filled alike
pub padded-same {ℓ} : {A : Type ℓ} (none : A) (size : ℕ) (f g : ℕ → A) (n : ℕ) → ((i : ℕ) → i < n → f i ≡ g i) → padded none size f n ≡ padded none size g n
unfolding padded
padded-same none size f g n same =
    tabulate-same (λ (j : ℕ). cond (ltb j n) (f j) none) (λ (j : ℕ). cond (ltb j n) (g j) none) size (λ i h. each i)
  where
    each : (i : ℕ) → cond (ltb i n) (f i) none ≡ cond (ltb i n) (g i) none
    each i = ⊎_elim (λ (h : n ≤ i). rw (le-ltb i n h)) (λ (h : i < n). rw (lt-ltb i n h, same i h)) (decide_n n i)

-- ---- std's `from_fn`

-- the array that calls at each number in turn gave, where each call answers h and leaves the closure as it was
pub tabulate-from_fn : {F B : Type 0} (g : Mut F (ℕ × Unit {0}) B) (h : ℕ → B) (f : F) (ys : List B) (n : ℕ) → IsFromFnResult g f ys n → ((i : ℕ) (y : B) (q : F) → i < n → Called g f (i, tt) y q → (q ≡ f) × (y ≡ h i)) → ys ≡ tabulate h n
unfolding tabulate
tabulate-from_fn {F} {B} g h f [] n made says = let e : n ≡ 0 = sym made.long in rw e refl
tabulate-from_fn {F} {B} g h f (d ∷ rest) n made says =
    let ys = d ∷ rest in
    ext_get_or d ys (tabulate h n) (made.long ∙ sym (tabulate-length h n))
    (λ i l. let b : i < n = rw made.long at l in each 0 n made.each (λ j y q s r k. says j y q (omega arith) k) i d (omega arith) (omega arith) ∙ sym (tabulate-at h n i d b))
  where
    each : (a m : ℕ) → IsFromFnResultFrom g f (d ∷ rest) a m → ((i : ℕ) (y : B) (q : F) → a ≤ i → i < a + m → Called g f (i, tt) y q → (q ≡ f) × (y ≡ h i)) → (i : ℕ) (e : B) → a ≤ i → i < a + m → get_or (d ∷ rest) i e ≡ h i
    each a zero made says i e low high = absurd (omega arith)
    each a (suc m) (q, y, here, call, others) says i e low high =
        let k = says a y q (omega arith) (omega arith) call in
        ⊎_elim
        (λ (r : suc a ≤ i). each (a + 1) m (rw k.0 at others) (λ j z p s t c. says j z p (omega arith) (omega arith) c) i e (omega arith) (omega arith))
        (λ (r : i < suc a). let b : i ≡ a = omega arith in rw b (here.1 e ∙ k.1))
        (decide_n (suc a) i)

-- and where it fills the first places alone
pub padded_from_fn : {F B : Type 0} (g : Mut F (ℕ × Unit {0}) B) (none : B) (size : ℕ) (h : ℕ → B) (n : ℕ) (f : F) (ys : List B) → IsFromFnResult g f ys size → ((i : ℕ) (y : B) (q : F) → i < size → Called g f (i, tt) y q → (q ≡ f) × (y ≡ cond (ltb i n) (h i) none)) → ys ≡ padded none size h n
unfolding padded
padded_from_fn g none size h n f ys made says = tabulate-from_fn g (λ (j : ℕ). cond (ltb j n) (h j) none) f ys size made says

-- ---- overlaid

pub overlaid-length {ℓ} : {A : Type ℓ} (l : List A) (at : ℕ) (values : List A) → length (overlaid l at values) ≡ length l
unfolding overlaid
overlaid-length l at [] = refl
overlaid-length l at (v ∷ values) = overlaid-length (set l at v) (at + 1) values ∙ simp length-set

pub overlaid-else {ℓ} : {A : Type ℓ} (l : List A) (at : ℕ) (values : List A) (d : A) (j : ℕ) → (j < at) ⊎ (at + length values ≤ j) → get_or (overlaid l at values) j d ≡ get_or l j d
unfolding overlaid
overlaid-else l at [] d j h = refl
overlaid-else l at (v ∷ values) d j h =
    overlaid-else (set l at v) (at + 1) values d j (⊎_elim (λ (a : j < at). inl (omega arith)) (λ (a : at + suc (length values) ≤ j). inr (omega arith)) h)
    ∙ get_or-set_other l at j v d (apart h)
  where
    apart : (j < at) ⊎ (at + suc (length values) ≤ j) → j ≡ at → ⊥
    apart (inl a) e = omega arith
    apart (inr a) e = omega arith

pub overlaid-at {ℓ} : {A : Type ℓ} (l : List A) (at : ℕ) (values : List A) (d : A) (k i : ℕ) → at + length values ≤ length l → k < length values → i ≡ at + k → get_or (overlaid l at values) i d ≡ get_or values k d
unfolding overlaid
overlaid-at l at [] d k i room h e = absurd (omega arith)
overlaid-at l at (v ∷ values) d zero i room h e =
    let is : i ≡ at = omega arith in
    rw is (overlaid-else (set l at v) (at + 1) values d at (inl (omega arith)) ∙ get_or-set_same l at v d (omega arith))
overlaid-at l at (v ∷ values) d (suc k) i room h e = overlaid-at (set l at v) (at + 1) values d k i (simp length-set (omega arith)) (omega arith) (omega arith)

-- one part after the other
pub overlaid-append {ℓ} : {A : Type ℓ} (l : List A) (at : ℕ) (v w : List A) → overlaid (overlaid l at v) (at + length v) w ≡ overlaid l at (v ++ w)
unfolding overlaid
overlaid-append l at [] w = let e : at + 0 ≡ at = omega arith in ap (λ (k : ℕ). overlaid l k w) e
overlaid-append l at (x ∷ v) w =
    let e : at + suc (length v) ≡ at + 1 + length v = omega arith in
    ap (λ (k : ℕ). overlaid (overlaid (set l at x) (at + 1) v) k w) e ∙ overlaid-append (set l at x) (at + 1) v w

-- ---- padded, more places at a time

module _ {ℓ} {A : Type ℓ} (none : A) (size : ℕ) (f : ℕ → A) where
  -- some more places are filled, one store after the other
  pub padded_overlaid : (n : ℕ) (values : List A) → n + length values ≤ size → ((k : ℕ) → k < length values → get_or values k none ≡ f (n + k)) → overlaid (padded none size f n) n values ≡ padded none size f (n + length values)
  unfolding overlaid
  padded_overlaid n [] room is = let e : n ≡ n + 0 = omega arith in ap (padded none size f) e
  padded_overlaid n (v ∷ values) room is =
      let z : n + 0 ≡ n = omega arith in
      let e : n + 1 + length values ≡ n + suc (length values) = omega arith in
      ap (λ (l : List A). overlaid l (n + 1) values) (padded_more none size f n v (omega arith) (is 0 (omega arith) ∙ ap f z))
      ∙ padded_overlaid (n + 1) values (omega arith) (λ k h. let s : n + suc k ≡ n + 1 + k = omega arith in is (suc k) (omega arith) ∙ ap f s)
      ∙ ap (padded none size f) e

  -- places that hold none are filled already
  pub padded_rest : (n m : ℕ) → n ≤ m → m ≤ size → ((i : ℕ) → n ≤ i → i < m → f i ≡ none) → padded none size f n ≡ padded none size f m
  padded_rest n m le few is =
      ext_get_or none (padded none size f n) (padded none size f m) (padded_length none size f n ∙ sym (padded_length none size f m)) (λ i h. each i)
    where
      each : (i : ℕ) → get_or (padded none size f n) i none ≡ get_or (padded none size f m) i none
      each i =
          ⊎_elim
          (λ (q : m ≤ i). padded_past none size f n i (omega arith) ∙ sym (padded_past none size f m i q))
          (λ (q : i < m).
          ⊎_elim
          (λ (r : n ≤ i). padded_past none size f n i r ∙ sym (padded_at none size f m i few q ∙ is i r q))
          (λ (r : i < n). padded_at none size f n i (omega arith) r ∙ sym (padded_at none size f m i few q))
          (decide_n n i))
          (decide_n m i)

  -- an array that is filled up to n, and holds none from there on
  pub padded_is : (l : List A) (n : ℕ) → n ≤ size → length l ≡ size → ((i : ℕ) → i < n → get_or l i none ≡ f i) → ((i : ℕ) → n ≤ i → get_or l i none ≡ none) → l ≡ padded none size f n
  padded_is l n few long filled rest =
      ext_get_or none l (padded none size f n) (long ∙ sym (padded_length none size f n))
      (λ i h. ⊎_elim (λ (q : n ≤ i). rest i q ∙ sym (padded_past none size f n i q)) (λ (q : i < n). filled i q ∙ sym (padded_at none size f n i few q)) (decide_n n i))
