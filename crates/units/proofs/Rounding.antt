-- From a float to the nearest voltage: what `nearest_size` asks and gives, what the tests of `from_f64` say, and that every voltage in
-- range comes back. Assumes nothing.
use Rattle.std.proofs.Common.{Some, None, ◌≡◌, ℕ, suc, ◌+◌, ◌-◌, ◌*◌, ◌/◌, ◌^◌, ◌<◌, ◌≤◌, min, Bool, true, false, ◌&&◌, T, ℤ, pos, negsuc, neg_ℤ, refl, ap, true≢false, mul_assoc, mul_comm, div-lt_iff_lt-mul, lt_of_mul-lt-mul_right, mul-lt-mul_of_pos_right, mul-pos, le-div_iff_mul-le, mul_left_comm, arith, lt→ltb, ltb-false, ltb-true, eq-eqb, eqb-true, le-leb}
use mathlib.Core.Bool.{false≢true}
use native.Mathlib.Nat.{div-eq_of_lt}
use borrow.Author.Tests.{lt-leb}
use lib.Ieee.{Float, nan, inf, fin, binary64, up, down, add, neg, fits, lt, eq, of_int, to_unsigned}
use lib.Ieee.Exact.{HasValue}
use lib.Ieee.Back.{round_whole}
use lib.Ieee.Fits.{down_pos}
use Rattle.units.specs.Voltage.{voltage_limit, InRange}
use Rattle.units.specs.Ratio.{nearest_ratio}
use Rattle.units.specs.Float.{Exactly, signed, rounded, nearest_voltage, Positive, nearest_size}
use Rattle.units.proofs.RatioLaws.{nearest_says}
use Rattle.units.proofs.Sizes.{abs_neg}
use Rattle.units.proofs.Doubling.{twice_exact, halved}

-- ---- what `nearest_size` asks and gives

dbl : (x : ℕ) → x + x ≡ x * 2
dbl x = omega arith

-- what has the value of x + x is below 2 ^ 63
top : (m : ℕ) (e : ℤ) (M : ℕ) (E : ℤ) → m * up e < 2 ^ 62 * down e → M * up E * (down e * down e) ≡ (m * up e * down e + m * up e * down e) * down E → M * up E < 2 ^ 63 * down E
top m e M E small h = go (m * up e) (down e) (M * up E) (down E) (down_pos e) (down_pos E) small h
  where
    go : (x d y b : ℕ) → 0 < d → 0 < b → x < 2 ^ 62 * d → y * (d * d) ≡ (x * d + x * d) * b → y < 2 ^ 63 * b
    go x d y b p q small h =
        let a : (x * d + x * d) * b ≡ x * 2 * (d * b) = rw (dbl (x * d)) (simp (mul_assoc, mul_comm, mul_left_comm)) in
        let l : x * 2 * (d * b) < 2 ^ 63 * d * (d * b) = mul-lt-mul_of_pos_right {m = x * 2} {n = 2 ^ 63 * d} (omega arith) (mul-pos p q) in
        let r : 2 ^ 63 * d * (d * b) ≡ 2 ^ 63 * b * (d * d) = simp (mul_assoc, mul_comm, mul_left_comm) in
        lt_of_mul-lt-mul_right (d * d) (rw (h, a, ← r) l)

asks : (z : Float) (m : ℕ) (e : ℤ) → m * up e < 2 ^ 62 * down e → HasValue z false (m * up e * down e + m * up e * down e) (down e * down e) → T (lt (fin true 1 (pos 0)) z) × T (lt z (fin false 1 (pos 64)))
unfolding lt
asks nan m e small h = absurd h
asks (inf t) m e small h = absurd h
asks (fin true M E) m e small h = absurd (true≢false h.0)
asks (fin false M E) m e small h =
    let t = top m e M E small h.1 in
    let p = down_pos E in
    (lt→ltb 0 (1 * 1 * down E + M * up E * 1) (omega arith), lt→ltb (M * up E * 1) (1 * 2 ^ 64 * down E) (omega arith))

gives : (z : Float) (m : ℕ) (e : ℤ) → m * up e < 2 ^ 62 * down e → HasValue z false (m * up e * down e + m * up e * down e) (down e * down e) → ((to_unsigned 64 z + 1) / 2 ≡ nearest_ratio (m * up e) (down e)) × (to_unsigned 64 z < 2 ^ 63)
unfolding to_unsigned
gives nan m e small h = absurd h
gives (inf t) m e small h = absurd h
gives (fin true M E) m e small h = absurd (true≢false h.0)
gives (fin false M E) m e small h =
    let t : M * up E / down E < 2 ^ 63 = (div-lt_iff_lt-mul {k = down E} (down_pos E)).1 (top m e M E small h.1) in
    let c : min (M * up E / down E) (2 ^ 64 - 1) ≡ M * up E / down E = omega arith in
    (rw c (halved m e M E h.1), omega arith)

pub size_asks : (y : Float) → T (fits binary64 y) → Positive y → T (lt (fin true 1 (pos 0)) (add binary64 y y)) × T (lt (add binary64 y y) (fin false 1 (pos 64)))
size_asks nan t h = absurd h
size_asks (inf s) t h = absurd h
size_asks (fin true m e) t h = absurd (true≢false h.0)
size_asks (fin false m e) t h = asks _ m e h.1 (twice_exact false m e t h.1)

pub size_gives : (y : Float) → T (fits binary64 y) → Positive y → (pos ((to_unsigned 64 (add binary64 y y) + 1) / 2) ≡ nearest_size y) × (to_unsigned 64 (add binary64 y y) < 2 ^ 63)
unfolding nearest_size
size_gives nan t h = absurd h
size_gives (inf s) t h = absurd h
size_gives (fin true m e) t h = absurd (true≢false h.0)
size_gives (fin false m e) t h = let g = gives _ m e h.1 (twice_exact false m e t h.1) in (ap pos g.0, g.1)

-- ---- what the tests of `from_f64` say

abbrev pub zero_f : Float
zero_f = fin false 0 (pos 0)

-- 2 ^ 62
abbrev pub far_f : Float
far_f = fin false 1 (pos 62)

pub positive : (x : Float) → lt zero_f x ≡ true → lt x far_f ≡ true → Positive x
unfolding lt
positive nan p q = absurd (false≢true p)
positive (inf true) p q = absurd (false≢true p)
positive (inf false) p q = absurd (false≢true q)
positive (fin true m e) p q = absurd (false≢true p)
positive (fin false m e) p q = (refl, omega (arith, ltb-true (m * up e * 1) (1 * 2 ^ 62 * down e) q))

pub positive_neg : (x : Float) → lt x zero_f ≡ true → lt (neg x) far_f ≡ true → Positive (neg x)
unfolding lt neg
positive_neg nan p q = absurd (false≢true p)
positive_neg (inf true) p q = absurd (false≢true q)
positive_neg (inf false) p q = absurd (false≢true p)
positive_neg (fin true m e) p q = (refl, omega (arith, ltb-true (m * up e * 1) (1 * 2 ^ 62 * down e) q))
positive_neg (fin false m e) p q = absurd (omega (arith, ltb-true (m * up e * 1) (0 * 1 * down e) p))

pub above_zero : (x : Float) → Positive x → rounded (nearest_size x) ≡ nearest_voltage x
unfolding nearest_size nearest_voltage
above_zero nan h = absurd h
above_zero (inf s) h = absurd h
above_zero (fin true m e) h = absurd (true≢false h.0)
above_zero (fin false m e) h = refl

pub below_zero : (x : Float) → Positive (neg x) → rounded (neg_ℤ (nearest_size (neg x))) ≡ nearest_voltage x
unfolding nearest_size nearest_voltage neg
below_zero nan h = absurd h
below_zero (inf s) h = absurd h
below_zero (fin true m e) h = refl
below_zero (fin false m e) h = absurd (true≢false h.0)

-- 2 ^ 62 or more in size is out of range
far : (s : Bool) (m : ℕ) (e : ℤ) → 2 ^ 62 * down e ≤ m * up e → None ≡ rounded (signed s (nearest_ratio (m * up e) (down e)))
far s m e h =
    let d = down_pos e in
    let l : 2 ^ 62 ≤ nearest_ratio (m * up e) (down e) = (le-div_iff_mul-le {k = down e * 2} (omega arith)).1 (omega arith) in
    out s (nearest_ratio (m * up e) (down e)) (omega arith)
  where
    out : (s : Bool) (n : ℕ) → voltage_limit < n → None ≡ rounded (signed s n)
    out true n h = rw (abs_neg (pos n), lt-leb n voltage_limit h)
    out false n h = rw (lt-leb n voltage_limit h)

pub too_high : (x : Float) → lt zero_f x ≡ true → lt x far_f ≡ false → None ≡ nearest_voltage x
unfolding lt nearest_voltage
too_high nan p q = refl
too_high (inf s) p q = refl
too_high (fin true m e) p q = absurd (false≢true p)
too_high (fin false m e) p q = far false m e (omega (arith, ltb-false (m * up e * 1) (1 * 2 ^ 62 * down e) q))

pub too_low : (x : Float) → lt x zero_f ≡ true → lt (neg x) far_f ≡ false → None ≡ nearest_voltage x
unfolding lt nearest_voltage neg
too_low nan p q = refl
too_low (inf s) p q = refl
too_low (fin true m e) p q = far true m e (omega (arith, ltb-false (m * up e * 1) (1 * 2 ^ 62 * down e) q))
too_low (fin false m e) p q = absurd (omega (arith, ltb-true (m * up e * 1) (0 * 1 * down e) p))

near_zero : (m : ℕ) (e : ℤ) → m * up e ≡ 0 → nearest_ratio (m * up e) (down e) ≡ 0
near_zero m e h = let d = down_pos e in rw h (div-eq_of_lt (omega arith))

pub at_zero : (x : Float) → eq x zero_f ≡ true → rounded (pos 0) ≡ nearest_voltage x
unfolding eq nearest_voltage
at_zero nan p = absurd (false≢true p)
at_zero (inf s) p = absurd (false≢true p)
at_zero (fin s m e) p = zero_of s (near_zero m e (omega (arith, eqb-true (m * up e * 1) (0 * 1 * down e) (and_fst _ _ p))))
  where
    and_fst : (a b : Bool) → a && b ≡ true → a ≡ true
    and_fst true b h = refl
    and_fst false b h = h

    zero_of : (s : Bool) → nearest_ratio (m * up e) (down e) ≡ 0 → rounded (pos 0) ≡ rounded (signed s (nearest_ratio (m * up e) (down e)))
    zero_of true h = rw h
    zero_of false h = rw h

pub not_a_number : (x : Float) → lt zero_f x ≡ false → lt x zero_f ≡ false → eq x zero_f ≡ false → None ≡ nearest_voltage x
unfolding lt eq nearest_voltage
not_a_number nan p q r = refl
not_a_number (inf s) p q r = refl
not_a_number (fin true m e) p q r =
    let h = ltb-false 0 (m * up e * 1 + 0 * 1 * down e) q in
    absurd (true≢false (rw (eq-eqb (m * up e * 1) (0 * 1 * down e) (omega arith), eq-eqb (m * up e * 1) 0 (omega arith)) at r))
not_a_number (fin false m e) p q r =
    let h = ltb-false (0 * 1 * down e) (m * up e * 1) p in
    absurd (true≢false (rw (eq-eqb (m * up e * 1) (0 * 1 * down e) (omega arith)) at r))

-- ---- to f64, and back unchanged

-- a voltage in range is an f64 exactly
pub exactly : (z : ℤ) → InRange z → Exactly (of_int binary64 z) z
unfolding of_int
exactly (pos n) h = round_whole binary64 false n (omega arith)
exactly (negsuc n) h = round_whole binary64 true (suc n) (omega arith)

-- what is exactly a voltage in range rounds to that voltage
back : (x : Float) (s : Bool) (n : ℕ) → n ≤ voltage_limit → HasValue x s n 1 → nearest_voltage x ≡ Some (record { microvolts = signed s n })
unfolding nearest_voltage
back nan s n b h = absurd h
back (inf t) s n b h = absurd h
back (fin t m e) s n b h =
    rw (h.0, (nearest_says (m * up e) (down e) n (down_pos e)).1 (record { near = omega (arith, h.1); upper = λ half. omega (arith, h.1) })) (kept s)
  where
    kept : (s : Bool) → rounded (signed s n) ≡ Some (record { microvolts = signed s n })
    kept true = rw (abs_neg (pos n), le-leb n voltage_limit b)
    kept false = rw (le-leb n voltage_limit b)

-- every whole microvolt from -33,554,432 to 33,554,432 goes to f64 and back unchanged
pub there_and_back : (z : ℤ) → InRange z → nearest_voltage (of_int binary64 z) ≡ Some (record { microvolts = z })
there_and_back (pos n) h = back (of_int binary64 (pos n)) false n h (exactly (pos n) h)
there_and_back (negsuc n) h = back (of_int binary64 (negsuc n)) true (suc n) h (exactly (negsuc n) h)
