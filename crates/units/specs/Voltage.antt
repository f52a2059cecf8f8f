-- The voltage: whole microvolts, its two limits, and what lies within them. Assumes nothing.
use Rattle.std.specs.Prelude.{ℕ, ◌^◌, ◌≤◌, Bool, cond, ℤ, pos, neg_ℤ, int_lt, nat_le, unsigned_abs}

-- the voltage limit, 33,554,432 µV
abbrev pub voltage_limit : ℕ
voltage_limit = 2 ^ 25

-- the drive limit, 16,777,216 µV
abbrev pub drive_limit : ℕ
drive_limit = 2 ^ 24

-- z lies from -limit to limit: as a fact, and as the test that the code makes
abbrev pub Within : ℕ → ℤ → Type 0
Within limit z = unsigned_abs z ≤ limit

abbrev pub within : ℕ → ℤ → Bool
within limit z = nat_le (unsigned_abs z) limit

-- a voltage that a node may have, and one that a node may be driven to
abbrev pub InRange : ℤ → Type 0
InRange z = Within voltage_limit z

abbrev pub InDrive : ℤ → Type 0
InDrive z = Within drive_limit z

-- the bottom of the range, and whether v stands above it, or below the top
abbrev pub bottom : ℤ
bottom = neg_ℤ (pos voltage_limit)

abbrev pub above_bottom : ℤ → Bool
above_bottom v = int_lt bottom v

abbrev pub below_top : ℤ → Bool
below_top v = int_lt v (pos voltage_limit)

-- the voltage in range that is nearest to v
unfoldable pub clamped : ℤ → ℤ
clamped v = cond (within voltage_limit v) v (cond (int_lt v (pos 0)) bottom (pos voltage_limit))
