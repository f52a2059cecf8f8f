-- Laws of `little_endian` and `written`, each once over the number of bytes: two parts make a whole, what was written is read
-- back, and every other byte stays. Assumes nothing.
use Rattle.std.proofs.Common.{◌≡◌, ℕ, zero, suc, ◌+◌, ◌-◌, ◌*◌, ◌/◌, ◌%◌, ◌^◌, ◌<◌, ◌≤◌, ◌⊎◌, List, length, get_or, set, ℤ, pos, negsuc, sym, refl, ap, ◌∙◌, inl, inr, ⊎_elim, add-zero, mod-eq_of_lt, mul_assoc, mul_comm, suc-add, mul-le-mul_left, one-mul, zero-add, mul-add, div-one, arith, length-set, get_or-set_other, get_or-set_same, pow-add, to_z-of_z, w32, w64, SFits, to_z, of_z}
use native.Mathlib.Nat.{pow-succ', pow-zero, pow-le-pow_right, mod-one, div-div-eq-div-mul}
use lib.Arith.{mod-mul}
use lib.Pow.{not_mod}
use mir.Syntax.{Width}
use mir.Val.{bits}
use mir.Facts.{Fits-of_z}
use mir.ValLaws.{half_full}
use Rattle.units.specs.Bytes.{little_endian, written, Spells, twos_complement}

-- 256 ^ n is above 0
pub pow_above : (n : ℕ) → 0 < 256 ^ n
pow_above zero = omega (arith, pow-zero 256)
pow_above (suc n) = omega (arith, pow-succ' 256 n, pow_above n)

-- the next place after at + 1 is at + suc a
next : (at a : ℕ) → at + 1 + a ≡ at + suc a
next at a = omega arith

split : (a b : ℕ) (s : List ℕ) (at : ℕ) → little_endian (a + b) s at ≡ little_endian a s at + 256 ^ a * little_endian b s (at + a)
unfolding little_endian
split zero b s at = rw (zero-add b, add-zero at, one-mul, zero-add)
split (suc a) b s at = rw (suc-add a b, split a b s (at + 1), next at a, pow-succ' 256 a) (omega (arith, mul-add 256 (little_endian a s (at + 1)) (256 ^ a * little_endian b s (at + suc a)), mul_assoc 256 (256 ^ a) (little_endian b s (at + suc a))))

-- what n bytes hold is small
pub little_endian_small : (n : ℕ) (s : List ℕ) (at : ℕ) → ((i : ℕ) → get_or s i 0 < 256) → little_endian n s at < 256 ^ n
unfolding little_endian
little_endian_small zero s at bytes = omega arith
little_endian_small (suc n) s at bytes = omega (arith, bytes at, little_endian_small n s (at + 1) bytes)

-- a bytes, and b more behind them, hold what the two together do
pub spells_both : (a b : ℕ) (s : List ℕ) (at r q : ℕ) → Spells a s at r → Spells b s (at + a) q → Spells (a + b) s at (r + 256 ^ a * q)
spells_both a b s at r q h k = record {
  value = rw (split a b s at, h.value, k.value);
  small = rw (pow-add 256 a b) (omega (arith, h.small, mul-le-mul_left (256 ^ a) k.small, mul-add (256 ^ a) q 1));
}

-- of n bytes those from place i on, and the byte before them
pub spells_more : (n i : ℕ) (s : List ℕ) (at r : ℕ) → 0 < i → i ≤ n → get_or s (at + (i - 1)) 0 < 256 → Spells (n - i) s (at + i) r → Spells (n - (i - 1)) s (at + (i - 1)) (256 * r + get_or s (at + (i - 1)) 0)
unfolding little_endian
spells_more n i s at r some most byte h = rw left record {
  value = rw (h.value, above) (omega arith);
  small = rw (pow-succ' 256 (n - i)) (omega (arith, h.small, byte));
}
  where
    left : n - (i - 1) ≡ suc (n - i)
    left = omega arith

    above : at + i ≡ at + (i - 1) + 1
    above = omega arith

-- what up to eight bytes hold is a number of 64 bits
pub spells_fits : {n : ℕ} {s : List ℕ} {at r : ℕ} → n ≤ 8 → Spells n s at r → r < 2 ^ 64
spells_fits few h = omega (arith, h.small, pow-le-pow_right {n = 256} (omega arith) few)

-- half of how many numbers n bytes can hold: its double is all of them ..
pub half_twice : (n : ℕ) → 1 ≤ n → 256 ^ n / 2 + 256 ^ n / 2 ≡ 256 ^ n
half_twice zero some = absurd (omega arith)
half_twice (suc n) some = rw (pow-succ' 256 n) (omega arith)

-- .. and it is what the code makes by a shift
pub half_shifted : (n : ℕ) → 1 ≤ n → n ≤ 8 → 1 * 2 ^ (8 * n - 1) % 2 ^ 64 ≡ 256 ^ n / 2
half_shifted zero some few = absurd (omega arith)
half_shifted (suc n) some few =
    let k : n ≤ 7 = omega arith in
    rw (one-mul, eight n, pow-add 2 (8 * n) 7, power_of_two n, pow-succ' 256 n) (omega (arith, pow-le-pow_right {n = 256} (omega arith) k))
  where
    eight : (n : ℕ) → 8 * suc n - 1 ≡ 8 * n + 7
    eight n = omega arith

    more : (n : ℕ) → 8 * suc n ≡ 8 + 8 * n
    more n = omega arith

    power_of_two : (n : ℕ) → 2 ^ (8 * n) ≡ 256 ^ n
    power_of_two zero = refl
    power_of_two (suc n) = rw (more n, pow-add 2 8 (8 * n), power_of_two n, pow-succ' 256 n)

-- the lower a bytes of v, and the b above them, written one after the other
pub written_both : (a b : ℕ) (s : List ℕ) (at v : ℕ) → written (a + b) s at v ≡ written b (written a s at v) (at + a) (v / 256 ^ a)
unfolding written
written_both zero b s at v = rw (zero-add b, add-zero at, pow-zero 256, div-one v)
written_both (suc a) b s at v = rw (suc-add a b, written_both a b (set s at (v % 256)) (at + 1) (v / 256), next at a, div-div-eq-div-mul v 256 (256 ^ a), pow-succ' 256 a)

-- a store changes no length ..
pub written_length : (n : ℕ) (s : List ℕ) (at v : ℕ) → length (written n s at v) ≡ length s
unfolding written
written_length zero s at v = refl
written_length (suc n) s at v = written_length n (set s at (v % 256)) (at + 1) (v / 256) ∙ simp length-set

-- .. and no byte before or after
pub written_else : (n : ℕ) (s : List ℕ) (at v j : ℕ) → (j < at) ⊎ (at + n ≤ j) → get_or (written n s at v) j 0 ≡ get_or s j 0
unfolding written
written_else zero s at v j h = refl
written_else (suc n) s at v j h =
    written_else n (set s at (v % 256)) (at + 1) (v / 256) j (⊎_elim (λ (l : j < at). inl (omega arith)) (λ (l : at + suc n ≤ j). inr (omega arith)) h)
    ∙ get_or-set_other s at j (v % 256) 0 (λ e. ⊎_elim (λ (l : j < at). omega arith) (λ (l : at + suc n ≤ j). omega arith) h)

-- what was written is read back
pub written_read : (n : ℕ) (s : List ℕ) (at v : ℕ) → at + n ≤ length s → little_endian n (written n s at v) at ≡ v % 256 ^ n
unfolding little_endian written
written_read zero s at v h = sym (rw (pow-zero 256) (mod-one v))
written_read (suc n) s at v h =
    let first = written_else n (set s at (v % 256)) (at + 1) (v / 256) at (inl (omega arith)) ∙ get_or-set_same s at (v % 256) 0 (omega arith) in
    let rest = written_read n (set s at (v % 256)) (at + 1) (v / 256) (simp length-set (omega arith)) in
    rw (first, rest, pow-succ' 256 n, mul_comm 256 (256 ^ n), mod-mul v {m = 256 ^ n} {c = 256} (pow_above n) (omega arith)) (omega arith)

-- ---- numbers with a sign

-- the lower k bits of a number below zero
low_below : (j k m : ℕ) → m < 2 ^ k → (2 ^ (j + k) - suc m) % 2 ^ k ≡ 2 ^ k - suc m
low_below j k m h = (ap (λ (n : ℕ). n % 2 ^ k) (one_off (2 ^ (j + k)))) ∙ not_mod j k h ∙ sym (one_off (2 ^ k))
  where
    one_off : (n : ℕ) → n - suc m ≡ n - 1 - m
    one_off n = omega arith

-- a number with a sign that was written in n bytes, at the width w of so many and j bits below an i64's, is read back: for an
-- i32 `signed_read w32 32 4 refl refl`, for an i64 `signed_read w64 0 8 refl refl`
pub signed_read : (w : Width) (j n : ℕ) → j + bits w ≡ bits w64 → 256 ^ n ≡ 2 ^ bits w → (s : List ℕ) (at : ℕ) (z : ℤ) → SFits w z → at + n ≤ length s → to_z w (little_endian n (written n s at (of_z w64 z)) at) ≡ z
signed_read w j n wide whole s at z f h = ap (to_z w) (written_read n s at (of_z w64 z) h ∙ ap (λ (m : ℕ). of_z w64 z % m) whole ∙ low z f) ∙ to_z-of_z f
  where
    low : (z : ℤ) → SFits w z → of_z w64 z % 2 ^ bits w ≡ of_z w z
    low (pos m) f = mod-eq_of_lt (Fits-of_z f).fits
    low (negsuc m) f = ap (λ (k : ℕ). (2 ^ k - suc m) % 2 ^ bits w) (sym wide) ∙ low_below j (bits w) m (half_full w f.sfits)

-- of four bytes and of eight, what `signed_at` reads is the language's own reading
pub four_signed : (n : ℕ) → twos_complement (256 ^ 4 / 2) n ≡ to_z w32 n
four_signed n = refl

pub eight_signed : (n : ℕ) → twos_complement (256 ^ 8 / 2) n ≡ to_z w64 n
eight_signed n = refl
