-- How omega reads ℤ. It reads only ℕ, so a signed number is given to it as `up z - dn z`, and the recipe is three lines:
--   1. `omega (signs, ..)` reads and proves `≤ℤ`, `<ℤ` and `≡` on ℤ: hypotheses in reach need not be named;
--   2. beside `signs` stands the law of each compound term: `add_law a b` for `a +ℤ b`, `sub_law`, `neg_law`, `pos_law`, `scale_law`, ..;
--   3. it is linear: a product of two unknowns goes in multiplied out, by `scale_add`, `scale_sub`, `scale_mono` and the like.
-- For example `omega (signs, add_law a c, add_law b d)` proves `(a +ℤ c) ≤ℤ (b +ℤ d)` from `a ≤ℤ b` and `c ≤ℤ d`. Assumes nothing.
use Rattle.std.proofs.Common.{◌≡◌, ℕ, zero, suc, ◌+◌, ◌-◌, ◌*◌, ◌<◌, ◌≤◌, min, max, Bool, true, false, cond, ltb, leb, ◌⊎◌, ℤ, pos, negsuc, ◌+ℤ◌, ◌-ℤ◌, ◌*ℤ◌, neg_ℤ, nat_abs, ◌≤ℤ◌, ◌<ℤ◌, sym, refl, ap, ◌∙◌, subst, inl, inr, ⊎_elim, mul-le-mul_left, mul-zero, arith, le→leb, ltb→lt, lt→ltb, leb→le, ltb-false, ltb-true}
use lib.Dec.{nleb→lt}
use lib.IntN.{sub_ℕ}
use lib.Signed.{le_z, lt_z}
use Rattle.units.specs.Integer.{up, dn, lower, higher}

-- ---- a signed number as the difference of two naturals, one of which is 0

-- `up` and `dn` stay shut where no line unfolds them, so that omega takes `up z` and `dn z` as unknowns

-- ---- order and equality: out of ℤ, and back in

pub le_out : {a b : ℤ} → a ≤ℤ b → up a + dn b ≤ up b + dn a
unfolding up dn
le_out {a = pos a} {b = pos b} h = omega (arith, leb→le a b h.le)
le_out {a = pos a} {b = negsuc b} h = absurd h.le
le_out {a = negsuc a} {b = pos b} h = omega arith
le_out {a = negsuc a} {b = negsuc b} h = omega (arith, leb→le b a h.le)

pub le_in : (a b : ℤ) → up a + dn b ≤ up b + dn a → a ≤ℤ b
unfolding up dn
le_in (pos a) (pos b) h = record { le = le→leb a b (omega arith) }
le_in (pos a) (negsuc b) h = absurd (omega arith)
le_in (negsuc a) (pos b) h = record { le = tt }
le_in (negsuc a) (negsuc b) h = record { le = le→leb b a (omega arith) }

pub lt_out : {a b : ℤ} → a <ℤ b → up a + dn b < up b + dn a
unfolding up dn
lt_out {a = pos a} {b = pos b} h = omega (arith, ltb→lt a b h.lt)
lt_out {a = pos a} {b = negsuc b} h = absurd h.lt
lt_out {a = negsuc a} {b = pos b} h = omega arith
lt_out {a = negsuc a} {b = negsuc b} h = omega (arith, ltb→lt b a h.lt)

pub lt_in : (a b : ℤ) → up a + dn b < up b + dn a → a <ℤ b
unfolding up dn
lt_in (pos a) (pos b) h = record { lt = lt→ltb a b (omega arith) }
lt_in (pos a) (negsuc b) h = absurd (omega arith)
lt_in (negsuc a) (pos b) h = record { lt = tt }
lt_in (negsuc a) (negsuc b) h = record { lt = lt→ltb b a (omega arith) }

pub eq_out : {a b : ℤ} → a ≡ b → up a + dn b ≡ up b + dn a
eq_out {a} e = subst (λ (b : ℤ). up a + dn b ≡ up b + dn a) e refl

pub eq_in : (a b : ℤ) → up a + dn b ≡ up b + dn a → a ≡ b
unfolding up dn
eq_in (pos a) (pos b) h = ap pos (omega arith)
eq_in (pos a) (negsuc b) h = absurd (omega arith)
eq_in (negsuc a) (pos b) h = absurd (omega arith)
eq_in (negsuc a) (negsuc b) h = ap negsuc (omega arith)

-- all that omega needs to pass between the two; the law of each compound term goes beside it
pub ruleset signs = (arith, le_out, le_in, lt_out, lt_in, eq_out, eq_in)

-- ---- a law for each operation

pub pos_law : (n : ℕ) → (up (pos n) ≡ n) × (dn (pos n) ≡ 0)
unfolding up dn
pos_law n = (refl, refl)

difference_law : (a b : ℕ) → up (sub_ℕ a b) + b ≡ dn (sub_ℕ a b) + a
unfolding up dn
difference_law a b = go (ltb a b) refl
  where
    go : (t : Bool) → ltb a b ≡ t → up (cond t (negsuc (b - suc a)) (pos (a - b))) + b ≡ dn (cond t (negsuc (b - suc a)) (pos (a - b))) + a
    go true e = omega (arith, ltb-true a b e)
    go false e = omega (arith, ltb-false a b e)

pub add_law : (a b : ℤ) → up (a +ℤ b) + dn a + dn b ≡ dn (a +ℤ b) + up a + up b
unfolding up dn
add_law (pos a) (pos b) = omega arith
add_law (pos a) (negsuc b) = omega (arith, difference_law a (suc b))
add_law (negsuc a) (pos b) = omega (arith, difference_law b (suc a))
add_law (negsuc a) (negsuc b) = omega arith

pub neg_law : (a : ℤ) → up (neg_ℤ a) + up a ≡ dn (neg_ℤ a) + dn a
unfolding up dn
neg_law (pos zero) = omega arith
neg_law (pos (suc n)) = omega arith
neg_law (negsuc n) = omega arith

pub sub_law : (a b : ℤ) → up (a -ℤ b) + dn a + up b ≡ dn (a -ℤ b) + up a + dn b
sub_law a b = omega (arith, add_law a (neg_ℤ b), neg_law b)

-- minus a natural, part by part
neg_pos_law : (m : ℕ) → (up (neg_ℤ (pos m)) ≡ 0) × (dn (neg_ℤ (pos m)) ≡ m)
unfolding up dn
neg_pos_law zero = (refl, refl)
neg_pos_law (suc m) = (refl, refl)

-- a product by a natural, part by part: what the network's currents are made of
pub scale_law : (g : ℕ) (v : ℤ) → (up (pos g *ℤ v) ≡ g * up v) × (dn (pos g *ℤ v) ≡ g * dn v)
unfolding up dn
scale_law g (pos n) = (refl, sym (mul-zero g))
scale_law g (negsuc n) = ((neg_pos_law (g * suc n)).0 ∙ sym (mul-zero g), (neg_pos_law (g * suc n)).1)

pub abs_law : (z : ℤ) → nat_abs z ≡ up z + dn z
unfolding up dn
abs_law (pos n) = omega arith
abs_law (negsuc n) = omega arith

-- one of the two parts is 0
pub one_sided : (z : ℤ) → (dn z ≡ 0) ⊎ (up z ≡ 0)
unfolding up dn
one_sided (pos n) = inl refl
one_sided (negsuc n) = inr refl

-- ---- products

-- a factor that isn't negative keeps the order
pub scale_mono : (g : ℕ) (a b : ℤ) → a ≤ℤ b → (pos g *ℤ a) ≤ℤ (pos g *ℤ b)
scale_mono g a b h = omega (signs, scale_law g a, scale_law g b, mul-le-mul_left g (le_out h))

-- (S - s) (u - v) is not negative
pub scale_gap : (s S : ℕ) (v u : ℤ) → s ≤ S → v ≤ℤ u → (pos s *ℤ u +ℤ pos S *ℤ v) ≤ℤ (pos s *ℤ v +ℤ pos S *ℤ u)
scale_gap s S v u l h =
    omega (
      signs,
      add_law (pos s *ℤ u) (pos S *ℤ v),
      add_law (pos s *ℤ v) (pos S *ℤ u),
      scale_law s u,
      scale_law s v,
      scale_law S u,
      scale_law S v,
      gap s S _ _ l (le_out h),
    )
  where
    more : (s r a b : ℕ) → a ≤ b → s * b + (s + r) * a ≤ s * a + (s + r) * b
    more s r a b h = omega (arith, mul-le-mul_left r h)

    gap : (s S a b : ℕ) → s ≤ S → a ≤ b → s * b + S * a ≤ s * a + S * b
    gap s S a b l h = let e : s + (S - s) ≡ S = omega arith in rw e at (more s (S - s) a b h)

pub scale_one : (v : ℤ) → pos 1 *ℤ v ≡ v
scale_one v = omega (signs, scale_law 1 v)

-- a natural factor goes into a sum, a difference, a negation and another such product
module _ (k : ℕ) where
  -- an equation of ℕ times k
  times : {a b : ℕ} → a ≡ b → k * a ≡ k * b
  times e = ap (λ (n : ℕ). k * n) e

  pub scale_add : (a b : ℤ) → pos k *ℤ (a +ℤ b) ≡ pos k *ℤ a +ℤ pos k *ℤ b
  scale_add a b = omega (signs, scale_law k (a +ℤ b), scale_law k a, scale_law k b, add_law (pos k *ℤ a) (pos k *ℤ b), times (add_law a b))

  pub scale_sub : (a b : ℤ) → pos k *ℤ (a -ℤ b) ≡ pos k *ℤ a -ℤ pos k *ℤ b
  scale_sub a b = omega (signs, scale_law k (a -ℤ b), scale_law k a, scale_law k b, sub_law (pos k *ℤ a) (pos k *ℤ b), times (sub_law a b))

  pub scale_neg : (a : ℤ) → pos k *ℤ neg_ℤ a ≡ neg_ℤ (pos k *ℤ a)
  scale_neg a = omega (signs, scale_law k (neg_ℤ a), scale_law k a, neg_law (pos k *ℤ a), times (neg_law a))

pub scale_scale : (g k : ℕ) (v : ℤ) → pos g *ℤ (pos k *ℤ v) ≡ pos k *ℤ (pos g *ℤ v)
scale_scale g k v =
    omega (
      signs,
      scale_law g (pos k *ℤ v),
      scale_law k (pos g *ℤ v),
      times g (scale_law k v).0,
      times g (scale_law k v).1,
      times k (scale_law g v).0,
      times k (scale_law g v).1,
    )

-- ---- a + t ≤ b, and b ≤ a + t, for a natural t, as omega reads them

abbrev pub Rise : ℤ → ℕ → ℤ → Type 0
Rise a t b = up a + dn b + t ≤ up b + dn a

abbrev pub Reach : ℤ → ℕ → ℤ → Type 0
Reach a t b = up b + dn a ≤ up a + dn b + t

-- ---- deciding, and the lower and the higher of two

pub decide : (a b : ℤ) → (a ≤ℤ b) ⊎ (b <ℤ a)
decide a b = go (leb (up a + dn b) (up b + dn a)) refl
  where
    go : (t : Bool) → leb (up a + dn b) (up b + dn a) ≡ t → (a ≤ℤ b) ⊎ (b <ℤ a)
    go true e = inl (le_in a b (leb→le _ _ (rw e tt)))
    go false e = inr (lt_in b a (nleb→lt _ _ (rw e tt)))

pub decide_n : (a b : ℕ) → (a ≤ b) ⊎ (b < a)
decide_n a b = go (leb a b) refl
  where
    go : (t : Bool) → leb a b ≡ t → (a ≤ b) ⊎ (b < a)
    go true e = inl (leb→le _ _ (rw e tt))
    go false e = inr (nleb→lt _ _ (rw e tt))

-- the test and the order
pub le_z_true : (a b : ℤ) → le_z a b ≡ true → a ≤ℤ b
le_z_true a b e = record { le = rw e tt }

pub le_z_false : (a b : ℤ) → le_z a b ≡ false → b <ℤ a
le_z_false a b e = ⊎_elim {C = b <ℤ a} (λ (h : a ≤ℤ b). absurd (rw e at h.le)) (λ (h : b <ℤ a). h) (decide a b)

pub lt_z_true : (a b : ℤ) → lt_z a b ≡ true → a <ℤ b
lt_z_true a b e = record { lt = rw e tt }

pub lt_z_holds : (a b : ℤ) → a <ℤ b → lt_z a b ≡ true
lt_z_holds a b h = go (lt_z a b) refl
  where
    go : (t : Bool) → lt_z a b ≡ t → t ≡ true
    go true e = refl
    go false e = absurd (rw e at h.lt)

pub lt_z_false : (a b : ℤ) → lt_z a b ≡ false → b ≤ℤ a
lt_z_false a b e = ⊎_elim {C = b ≤ℤ a} (λ (h : b ≤ℤ a). h) (λ (h : a <ℤ b). absurd (rw e at h.lt)) (decide b a)

-- an order holds part by part
pub parts : (a b : ℤ) → up a + dn b ≤ up b + dn a → (up a ≤ up b) × (dn b ≤ dn a)
unfolding up dn
parts (pos a) (pos b) h = omega arith
parts (pos a) (negsuc b) h = omega arith
parts (negsuc a) (pos b) h = omega arith
parts (negsuc a) (negsuc b) h = omega arith

pub lower_law : (a b : ℤ) → (up (lower a b) ≡ min (up a) (up b)) × (dn (lower a b) ≡ max (dn a) (dn b))
unfolding lower
lower_law a b = go (le_z a b) refl
  where
    go : (t : Bool) → le_z a b ≡ t → (up (cond t a b) ≡ min (up a) (up b)) × (dn (cond t a b) ≡ max (dn a) (dn b))
    go true e = let h = parts a b (le_out (le_z_true a b e)) in omega arith
    go false e = let h = parts b a (omega (arith, lt_out (le_z_false a b e))) in omega arith

pub higher_law : (a b : ℤ) → (up (higher a b) ≡ max (up a) (up b)) × (dn (higher a b) ≡ min (dn a) (dn b))
unfolding higher
higher_law a b = go (le_z a b) refl
  where
    go : (t : Bool) → le_z a b ≡ t → (up (cond t b a) ≡ max (up a) (up b)) × (dn (cond t b a) ≡ min (dn a) (dn b))
    go true e = let h = parts a b (le_out (le_z_true a b e)) in omega arith
    go false e = let h = parts b a (omega (arith, lt_out (le_z_false a b e))) in omega arith

pub lower_mono : (a b c : ℤ) → a ≤ℤ b → lower a c ≤ℤ lower b c
lower_mono a b c h = let k = parts a b (le_out h) in omega (signs, lower_law a c, lower_law b c)

pub higher_mono : (a b c : ℤ) → a ≤ℤ b → higher a c ≤ℤ higher b c
higher_mono a b c h = let k = parts a b (le_out h) in omega (signs, higher_law a c, higher_law b c)

pub ordered : (a b : ℤ) → a ≤ℤ b → (lower a b ≡ a) × (higher a b ≡ b)
ordered a b h = let k = parts a b (le_out h) in (omega (signs, lower_law a b), omega (signs, higher_law a b))

pub crossed : (a b : ℤ) → b ≤ℤ a → (lower a b ≡ b) × (higher a b ≡ a)
crossed a b h = let k = parts b a (le_out h) in (omega (signs, lower_law a b), omega (signs, higher_law a b))

-- a natural factor comes out of both
module _ (k : ℕ) (a b : ℤ) where
  pub scale_lower : lower (pos k *ℤ a) (pos k *ℤ b) ≡ pos k *ℤ lower a b
  scale_lower = ⊎_elim
      (λ (h : a ≤ℤ b). rw (ordered a b h).0 (ordered _ _ (scale_mono k a b h)).0)
      (λ (h : b <ℤ a). rw (crossed a b (omega signs)).0 (crossed _ _ (scale_mono k b a (omega signs))).0) (decide a b)

  pub scale_higher : higher (pos k *ℤ a) (pos k *ℤ b) ≡ pos k *ℤ higher a b
  scale_higher = ⊎_elim
      (λ (h : a ≤ℤ b). rw (ordered a b h).1 (ordered _ _ (scale_mono k a b h)).1)
      (λ (h : b <ℤ a). rw (crossed a b (omega signs)).1 (crossed _ _ (scale_mono k b a (omega signs))).1) (decide a b)

-- the lower and the higher, each times a factor, add up to the two times that factor
pub both_scale : (g : ℕ) (a b : ℤ) → (up (pos g *ℤ lower a b) + up (pos g *ℤ higher a b) ≡ up (pos g *ℤ a) + up (pos g *ℤ b)) × (dn (pos g *ℤ lower a b) + dn (pos g *ℤ higher a b) ≡ dn (pos g *ℤ a) + dn (pos g *ℤ b))
both_scale g a b =
    let ups : up (lower a b) + up (higher a b) ≡ up a + up b = omega (signs, lower_law a b, higher_law a b) in
    let dns : dn (lower a b) + dn (higher a b) ≡ dn a + dn b = omega (signs, lower_law a b, higher_law a b) in
    omega (arith, scale_law g a, scale_law g b, scale_law g (lower a b), scale_law g (higher a b), times g ups, times g dns)
