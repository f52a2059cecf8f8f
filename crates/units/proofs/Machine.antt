-- Numbers with a sign on the machine: an operand stands in a local as its bits, `of_z w a`, and is read back by `to_z w`. One
-- law for every operation at every width. Assumes nothing.
use Rattle.std.proofs.Common.{◌≡◌, ℕ, zero, suc, ◌-◌, ◌^◌, ◌<◌, ◌≤◌, true, false, T, ℤ, pos, negsuc, ◌-ℤ◌, nat_abs, refl, ap, true≢false, arith, to_z-of_z, w32, w64, Fits, SFits, to_z, of_z, ltb-true, le-ltb, leb-false}
use mathlib.Core.Bool.{false≢true}
use lib.Signed.{le_z, lt_z, mag, non_neg}
use mir.Syntax.{Width}

-- the operation's result fits, and is the operation's on ℤ
pub op_fits : {w : Width} (f : ℤ → ℤ → ℤ) {a b : ℤ} → SFits w a → SFits w b → SFits w (f a b) → SFits w (f (to_z w (of_z w a)) (to_z w (of_z w b)))
op_fits f p q r = rw (to_z-of_z p, to_z-of_z q) r

pub op_is : {w : Width} (f : ℤ → ℤ → ℤ) {a b : ℤ} → SFits w a → SFits w b → SFits w (f a b) → to_z w (of_z w (f (to_z w (of_z w a)) (to_z w (of_z w b)))) ≡ f a b
op_is f p q r = rw (to_z-of_z p, to_z-of_z q) (to_z-of_z r)

-- a bound on the size is a fit, at 64 bits and at 32
mag_size : (z : ℤ) → mag z ≤ nat_abs z
mag_size (pos n) = omega arith
mag_size (negsuc n) = omega arith

pub fits_size : (z : ℤ) (n : ℕ) → nat_abs z ≤ n → n < 2 ^ 63 → SFits w64 z
fits_size z n h k = record { sfits = omega (arith, mag_size z) }

pub fits_half : (z : ℤ) (n : ℕ) → nat_abs z ≤ n → n < 2 ^ 31 → SFits w32 z
fits_half z n h k = record { sfits = omega (arith, mag_size z) }

-- -1 - y is -(y + 1), and back
pub less_one : (y : ℕ) → negsuc 0 -ℤ pos y ≡ negsuc y
less_one zero = refl
less_one (suc y) = ap negsuc (omega arith)

pub one_less : (y : ℕ) → negsuc 0 -ℤ negsuc y ≡ pos y
one_less y = rw (le-ltb (suc y) 1 (omega arith)) (ap pos (omega arith))

-- ---- what the test `0 <= z` says of an i64

-- it passed: a cast to u64 is allowed, and gives the size
pub not_below : (z : ℤ) → SFits w64 z → le_z (pos 0) z ≡ true → T (non_neg z) × Fits w64 (nat_abs z)
not_below (pos n) f e = (tt, record { fits = omega (arith, f.sfits) })
not_below (negsuc n) f e = absurd (false≢true e)

-- it failed: z is -(n + 1)
pub record Below (z : ℤ) : Type 0 where
  pub n : ℕ
  pub is : z ≡ negsuc n
  pub small : n < 2 ^ 63

pub below : (z : ℤ) → SFits w64 z → le_z (pos 0) z ≡ false → Below z
below (pos n) f e = absurd (omega (arith, leb-false 0 n e))
below (negsuc n) f e = record { n = n; is = refl; small = f.sfits }

-- ---- the bits of an i64, by its sign

pub record BitsBelow (z : ℤ) : Type 0 where
  pub some : 0 < nat_abs z
  pub few : nat_abs z ≤ 2 ^ 63
  pub bits : 18446744073709551615 - (nat_abs z - 1) ≡ of_z w64 z

pub bits_below : (z : ℤ) → SFits w64 z → lt_z z (pos 0) ≡ true → BitsBelow z
bits_below (pos n) f e = absurd (omega (arith, ltb-true n 0 e))
bits_below (negsuc n) f e = record { some = omega arith; few = omega (arith, f.sfits); bits = omega (arith, f.sfits) }

pub bits_not_below : (z : ℤ) → lt_z z (pos 0) ≡ false → nat_abs z ≡ of_z w64 z
bits_not_below (pos n) e = refl
bits_not_below (negsuc n) e = absurd (true≢false e)
