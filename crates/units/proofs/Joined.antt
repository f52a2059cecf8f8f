-- Numbers in bytes that are put together from two parts, a and b: what is read from a part, or written into it, is so in the whole. Assumes nothing.
use Rattle.std.proofs.Common.{◌≡◌, ℕ, zero, suc, ◌+◌, ◌/◌, ◌%◌, ◌≤◌, List, [], ◌∷◌, ◌++◌, length, set, refl, ap, suc-add, zero-add, arith, length-set, get_or-append-add}
use lib.ListN.{get_or-append}
use lib.Seq.{set-append_left}
use Rattle.units.specs.Bytes.{little_endian, written}

pub first_read : (n : ℕ) (a b : List ℕ) (at : ℕ) → at + n ≤ length a → little_endian n (a ++ b) at ≡ little_endian n a at
unfolding little_endian
first_read zero a b at there = refl
first_read (suc n) a b at there = rw (get_or-append a b 0 at (omega arith), first_read n a b (at + 1) (omega arith))

pub second_read : (n : ℕ) (a b : List ℕ) (at : ℕ) → little_endian n (a ++ b) (length a + at) ≡ little_endian n b at
unfolding little_endian
second_read zero a b at = refl
second_read (suc n) a b at = let e : length a + at + 1 ≡ length a + (at + 1) = omega arith in rw (get_or-append-add a b at 0, e, second_read n a b (at + 1))

pub first_written : (n : ℕ) (a b : List ℕ) (at v : ℕ) → at + n ≤ length a → written n (a ++ b) at v ≡ written n a at v ++ b
unfolding written
first_written zero a b at v there = refl
first_written (suc n) a b at v there = rw (set-append_left a b at (v % 256) (omega arith)) (first_written n (set a at (v % 256)) b (at + 1) (v / 256) (omega (arith, length-set a at (v % 256))))

set_second : (a b : List ℕ) (at v : ℕ) → set (a ++ b) (length a + at) v ≡ a ++ set b at v
set_second [] b at v = rw (zero-add at)
set_second (x ∷ a) b at v = rw (suc-add (length a) at) (ap (◌∷◌ x) (set_second a b at v))

pub second_written : (n : ℕ) (a b : List ℕ) (at v : ℕ) → written n (a ++ b) (length a + at) v ≡ a ++ written n b at v
unfolding written
second_written zero a b at v = refl
second_written (suc n) a b at v = let e : length a + at + 1 ≡ length a + (at + 1) = omega arith in rw (set_second a b at (v % 256), e) (second_written n a (set b at (v % 256)) (at + 1) (v / 256))
