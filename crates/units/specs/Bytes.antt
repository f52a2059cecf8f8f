-- Numbers in bytes, the lowest byte first, over the number n of bytes. What bits say as a number with a sign is the
-- language's own reading, `to_z w`, and the bits of such a number are `of_z w`. Assumes nothing.
use Rattle.std.specs.Prelude.{◌≡◌, ℕ, zero, suc, ◌+◌, ◌-◌, ◌*◌, ◌/◌, ◌%◌, ◌^◌, ◌<◌, List, ℤ, pos, negsuc, nat_lt, slice_index, slice_set}
use mir.Val.{sel}

-- what the n bytes of s from `at` on hold
unfoldable pub little_endian : ℕ → List ℕ → ℕ → ℕ
little_endian zero s at = 0
little_endian (suc n) s at = slice_index s at + 256 * little_endian n s (at + 1)

-- s with the n lowest bytes of v in it from `at` on
unfoldable pub written : ℕ → List ℕ → ℕ → ℕ → List ℕ
written zero s at v = s
written (suc n) s at v = written n (slice_set s at (v % 256)) (at + 1) (v / 256)

-- r is what those bytes hold; the bound is for a caller that casts or sums it
pub record Spells (n : ℕ) (s : List ℕ) (at r : ℕ) : Type 0 where
  pub value : r ≡ little_endian n s at
  pub small : r < 256 ^ n

-- what the bits n say as a number with a sign, where patterns from `half` on stand for the negative ones: `to_z w` over the half
abbrev pub twos_complement : ℕ → ℕ → ℤ
twos_complement half n = sel (nat_lt n half) (pos n) (negsuc (half + half - suc n))
