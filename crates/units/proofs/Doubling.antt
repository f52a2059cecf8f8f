-- Twice an f64 below 2 ^ 62 in size is an f64, so that x + x is exact and its whole part shows the halves. Assumes nothing.
use Rattle.std.proofs.Common.{◌≡◌, ℕ, zero, suc, ◌+◌, ◌-◌, ◌*◌, ◌/◌, ◌%◌, ◌^◌, ◌<◌, ◌≤◌, Bool, true, false, ◌&&◌, T, eqb, ltb, leb, ℤ, pos, negsuc, sym, refl, ap, ◌∙◌, subst, lt_of_lt_of_le, lt_irrefl, mul_assoc, mul_comm, mul-pos, one-mul, pow-suc, mul-one, mul_right_comm, mul_left_comm, arith, lit<, lit≤, eqb→eq, ltb→lt, leb→le, pow_pos, pow_mono, pow-add, shl_lt, leb-false, leb-true}
use native.Mathlib.Nat.{mul-div-mul_right, add-div_right, div-div-eq-div-mul}
use lib.Pow.{pow-lt}
use lib.Ieee.{fin, binary64, up, down, round, sum, add, fits}
use lib.Ieee.Exact.{HasValue, round_exact}
use lib.Ieee.Fits.{down_pos, and_l, and_r}
use lib.Ieee.Nearest.{div_same}

-- 2 ^ a ≤ 2 ^ b gives a ≤ b
pow_le_back : (a b : ℕ) → 2 ^ a ≤ 2 ^ b → a ≤ b
pow_le_back a b h = go (leb a b) refl
  where
    go : (t : Bool) → leb a b ≡ t → a ≤ b
    go true e = leb-true a b e
    go false e = absurd (lt_irrefl (2 ^ b) (lt_of_lt_of_le (pow-lt (leb-false a b e)) h))

-- what the format says of m
digits : (s : Bool) (m : ℕ) (e : ℤ) → T (fits binary64 (fin s m e)) → m < 2 ^ 53
unfolding fits
digits s zero e t = lit< tt
digits s (suc m) e t = ltb→lt (suc m) (2 ^ 53) (and_r (eqb (suc m % 2) 1) (ltb (suc m) (2 ^ 53)) (and_l (eqb (suc m % 2) 1 && ltb (suc m) (2 ^ 53)) (leb (down e) (2 ^ 1074)) (and_l (eqb (suc m % 2) 1 && ltb (suc m) (2 ^ 53) && leb (down e) (2 ^ 1074)) (ltb (suc m * up e) (2 ^ 1024 * down e)) t)))

-- the two halves of a sum of x and x
pub twice_round : (s : Bool) (m : ℕ) (e : ℤ) → add binary64 (fin s m e) (fin s m e) ≡ round binary64 s (m * up e * down e + m * up e * down e) (down e * down e)
unfolding add sum
twice_round true m e = refl
twice_round false m e = refl

dbl : (x : ℕ) → x + x ≡ x * 2
dbl x = omega arith

up_case : (m u l : ℕ) → (m * u * 1 + m * u * 1) * l ≡ m * (u * l * 2) * (1 * 1)
up_case m u l = rw (dbl (m * u * 1)) (simp (mul-one, one-mul, mul_assoc, mul_comm, mul_left_comm))

down_case : (m d j l : ℕ) → j * d ≡ l * 2 → (m * 1 * d + m * 1 * d) * l ≡ m * j * (d * d)
down_case m d j l h =
    let r : m * j * (d * d) ≡ m * (j * d) * d = simp (mul_assoc, mul_comm, mul_left_comm) in
    rw (r, h, dbl (m * 1 * d)) (simp (mul-one, one-mul, mul_assoc, mul_comm, mul_left_comm))

depth : (s : Bool) (m k : ℕ) → T (fits binary64 (fin s m (negsuc k))) → suc k ≤ 1074
unfolding fits
depth s zero k t = absurd (lt_irrefl 1 (lt_of_lt_of_le (pow-lt {i = 0} {j = suc k} (omega arith)) (omega (arith, one-mul (2 ^ suc k), eqb→eq (1 * 2 ^ suc k) 1 t))))
depth s (suc m) k t = pow_le_back (suc k) 1074 (leb→le (2 ^ suc k) (2 ^ 1074) (and_r (eqb (suc m % 2) 1 && ltb (suc m) (2 ^ 53)) (leb (2 ^ suc k) (2 ^ 1074)) (and_l (eqb (suc m % 2) 1 && ltb (suc m) (2 ^ 53) && leb (2 ^ suc k) (2 ^ 1074)) (ltb (suc m * 1) (2 ^ 1024 * 2 ^ suc k)) t)))

up_small : (m k : ℕ) → m * 2 ^ k < 2 ^ 62 → m * 2 ^ suc (k + 1074) < 2 ^ 2098
up_small m k h =
    let n : k + 1075 ≡ suc (k + 1074) = omega arith in
    let e : m * 2 ^ k * 2 ^ 1075 ≡ m * 2 ^ suc (k + 1074) = mul_assoc m (2 ^ k) (2 ^ 1075) ∙ ap (λ (x : ℕ). m * x) (sym (pow-add 2 k 1075) ∙ ap (λ (x : ℕ). 2 ^ x) n) in
    lt_of_lt_of_le (subst (λ (x : ℕ). x < 2 ^ 1137) e (shl_lt 62 1075 h)) (pow_mono {i = 1137} {j = 2098} (lit≤ tt))

pub twice_exact : (s : Bool) (m : ℕ) (e : ℤ) → T (fits binary64 (fin s m e)) → m * up e < 2 ^ 62 * down e → HasValue (add binary64 (fin s m e) (fin s m e)) s (m * up e * down e + m * up e * down e) (down e * down e)
twice_exact s m (pos k) t h =
    rw (twice_round s m (pos k))
    (round_exact binary64 s _ _ m (suc (k + 1074)) (lit< tt) (digits s m (pos k) t)
    (up_small m k h)
    (up_case m (2 ^ k) (2 ^ 1074) ∙ ap (λ (x : ℕ). m * x * 1) (sym (pow-suc 2 (k + 1074) ∙ ap (λ (x : ℕ). x * 2) (pow-add 2 k 1074)))))
twice_exact s m (negsuc k) t h =
    let d = depth s m k t in
    let n : 1074 - k + suc k ≡ 1075 = omega arith in
    rw (twice_round s m (negsuc k))
    (round_exact binary64 s _ _ m (1074 - k) (mul-pos (pow_pos (suc k)) (pow_pos (suc k))) (digits s m (negsuc k) t)
    (lt_of_lt_of_le (shl_lt 53 (1074 - k) (digits s m (negsuc k) t)) (pow_mono {i = 53 + (1074 - k)} {j = 2098} (omega arith)))
    (down_case m (2 ^ suc k) (2 ^ (1074 - k)) (2 ^ 1074) (sym (pow-add 2 (1074 - k) (suc k)) ∙ ap (λ (x : ℕ). 2 ^ x) n)))

-- the whole part of what has the value of x + x, and one more, halved: x to the nearest whole number
pub halved : (m : ℕ) (e : ℤ) (M : ℕ) (E : ℤ) → M * up E * (down e * down e) ≡ (m * up e * down e + m * up e * down e) * down E → (M * up E / down E + 1) / 2 ≡ (m * up e * 2 + down e) / (down e * 2)
halved m e M E h =
    let d = down e in
    let x = m * up e in
    let p = down_pos e in
    let a : M * up E / down E ≡ (x * d + x * d) / (d * d) = div_same (M * up E) (down E) (x * d + x * d) (d * d) (down_pos E) (mul-pos p p) h in
    let b : x * d + x * d ≡ x * 2 * d = dbl (x * d) ∙ mul_right_comm x d 2 in
    let c : x * 2 * d / (d * d) ≡ x * 2 / d = mul-div-mul_right (x * 2) d p in
    let f : (x * 2 + d) / d ≡ x * 2 / d + 1 = add-div_right (x * 2) p in
    rw (a, b, c, ← f) (div-div-eq-div-mul (x * 2 + d) d 2)
