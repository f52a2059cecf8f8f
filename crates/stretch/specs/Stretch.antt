-- A curve as straight stretches: on the one that a voltage lies in, the current is a slope times the voltage and a current at zero volts. And
-- the table of stretches, a row of three numbers each: breakpoint, slope, current at zero volts. Assumes nothing.
use Rattle.std.specs.Prelude.{cond, List, [], ◌∷◌, ◌⊎◌, ◌≡◌, ℕ, zero, suc, ◌+◌, ◌*◌, ◌^◌, ◌≤◌, ◌<◌, eqb, leb, ℤ, pos, nat_abs, ◌+ℤ◌, ◌-ℤ◌, ◌*ℤ◌, length, get_or}
use Rattle.std.specs.Int.Signed.{le_z}
use Rattle.units.specs.Table.{tabulate}
use Rattle.network.specs.Network.{curve, current, reading, CurveInLimits}

-- the stretch that v lies in: how many breakpoints from the left on are at or below it
unfoldable pub stretch_of : List ℤ → ℤ → ℕ
stretch_of [] v = 0
stretch_of (b ∷ breakpoints) v = cond (le_z b v) (suc (stretch_of breakpoints v)) 0

-- a row is that of v's stretch or one of the four before it, the rows of these breakpoints being numbered from `first` on. That it is close is
-- what keeps a walk from there short; that the walk finds the stretch does not need it
pub record Near (breakpoints : List ℤ) (v : ℤ) (first row : ℕ) : Type 0 where
  pub from : first ≤ row
  pub reached : row ≤ first + stretch_of breakpoints v
  pub close : first + stretch_of breakpoints v ≤ row + 4

-- where the line of stretch j meets zero volts, above where that of stretch 0 does: lines meet at breakpoints
unfoldable pub offset : List ℕ → List ℤ → ℕ → ℤ
offset slopes breakpoints zero = pos 0
offset slopes breakpoints (suc j) =
    offset slopes breakpoints j
    +ℤ (pos (get_or slopes j 0) *ℤ reading breakpoints j -ℤ pos (get_or slopes (suc j) 0) *ℤ reading breakpoints j)

-- the current at zero volts of stretch j's line: none on the stretch of zero volts itself
unfoldable pub at_zero_of : List ℕ → List ℤ → ℕ → ℤ
at_zero_of slopes breakpoints j = offset slopes breakpoints j -ℤ offset slopes breakpoints (stretch_of breakpoints (pos 0))

-- ---- the table

-- how many rows it has, and how many places: three for each of 17 stretches of 8 curves
abbrev pub rows : ℕ
rows = 136

abbrev pub stretches_size : ℕ
stretches_size = 408

-- the numbers of row r
abbrev pub breakpoint_in : List ℤ → ℕ → ℤ
breakpoint_in stretches r = reading stretches (3 * r)

abbrev pub slope_in : List ℤ → ℕ → ℕ
slope_in stretches r = nat_abs (reading stretches (3 * r + 1))

abbrev pub at_zero_in : List ℤ → ℕ → ℤ
at_zero_in stretches r = reading stretches (3 * r + 2)

-- the curve of m breakpoints whose stretches stand from row `first` on
unfoldable pub slopes_in : List ℤ → ℕ → ℕ → List ℕ
slopes_in stretches first m = tabulate (λ (i : ℕ). slope_in stretches (first + i)) (suc m)

unfoldable pub breakpoints_in : List ℤ → ℕ → ℕ → List ℤ
breakpoints_in stretches first m = tabulate (λ (i : ℕ). breakpoint_in stretches (first + i)) m

-- its current at v
abbrev pub curve_current : List ℤ → ℕ → ℕ → ℤ → ℤ
curve_current stretches first m v = current 1 (curve (slopes_in stretches first m) (breakpoints_in stretches first m)) (pos 0) v

-- the rows are there, the curve is within the limits, and its stretches have their currents at zero volts
pub record CurveReady (stretches : List ℤ) (first m : ℕ) : Type 0 where
  pub there : first + m < rows
  pub limits : CurveInLimits (slopes_in stretches first m) (breakpoints_in stretches first m)
  pub at_zero : (i : ℕ) → i ≤ m → at_zero_in stretches (first + i) ≡ at_zero_of (slopes_in stretches first m) (breakpoints_in stretches first m) i

-- ---- how it is filled

-- the first m + 1 of an array of slopes, and the first m of one of breakpoints
unfoldable pub slopes_to : List ℕ → ℕ → List ℕ
slopes_to slopes m = tabulate (λ (i : ℕ). get_or slopes i 0) (suc m)

unfoldable pub breakpoints_to : List ℤ → ℕ → List ℤ
breakpoints_to breakpoints m = tabulate (reading breakpoints) m

-- number k of the row of stretch i, whose line has this current at zero volts
abbrev pub row_with : List ℕ → List ℤ → ℤ → ℕ → ℕ → ℤ
row_with slopes breakpoints current i k = cond (eqb k 0) (reading breakpoints i) (cond (eqb k 1) (pos (get_or slopes i 0)) current)

-- as it is to be: past the last stretch there are zeros
unfoldable pub row_number : List ℕ → List ℤ → ℕ → ℕ → ℤ
row_number slopes breakpoints i k = row_with slopes breakpoints (cond (leb i (length breakpoints)) (at_zero_of slopes breakpoints i) (pos 0)) i k

-- as it is drawn first: every line is counted from that of stretch 0
unfoldable pub drawn_number : List ℕ → List ℤ → ℕ → ℕ → ℤ
drawn_number slopes breakpoints i k = row_with slopes breakpoints (offset slopes breakpoints i) i k

-- how far the line of stretch i + 1 lies above that of stretch i at zero volts; the bound is for sums
pub record Step (slopes : List ℕ) (breakpoints : List ℤ) (i : ℕ) (r : ℤ) : Type 0 where
  pub value : offset slopes breakpoints (i + 1) ≡ offset slopes breakpoints i +ℤ r
  pub small : nat_abs r ≤ 2 ^ 57

-- n rows of these numbers stand from row `first` on, and what stands elsewhere is as it was
pub record Rows (number : ℕ → ℕ → ℤ) (before : List ℤ) (first n : ℕ) (after : List ℤ) : Type 0 where
  pub long : length after ≡ length before
  pub row : (i k : ℕ) → i < n → k < 3 → reading after (3 * (first + i) + k) ≡ number i k
  pub elsewhere : (t : ℕ) → (t < 3 * first) ⊎ (3 * (first + n) ≤ t) → reading after t ≡ reading before t

-- the first n stretches of a curve stand from row `first` on
abbrev pub Filled : List ℕ → List ℤ → List ℤ → ℕ → ℕ → List ℤ → Type 0
Filled slopes breakpoints before first n after = Rows (row_number slopes breakpoints) before first n after

-- .. with every line counted from that of stretch 0 still
abbrev pub Drawn : List ℕ → List ℤ → List ℤ → ℕ → ℕ → List ℤ → Type 0
Drawn slopes breakpoints before first n after = Rows (drawn_number slopes breakpoints) before first n after

-- the lines of n rows from row `first` on are lower by a current, and what stands elsewhere is as it was
pub record Lowered (before : List ℤ) (first n : ℕ) (current : ℤ) (after : List ℤ) : Type 0 where
  pub long : length after ≡ length before
  pub line : (i : ℕ) → i < n → at_zero_in after (first + i) ≡ at_zero_in before (first + i) -ℤ current
  pub elsewhere : (t : ℕ) → ((i : ℕ) → i < n → t ≡ 3 * (first + i) + 2 → ⊥) → reading after t ≡ reading before t
