-- A curve's own bytes as they lie in the image: m, three bytes of padding, m + 1 slopes, m breakpoints. Past the end they read as 0.
-- Assumes nothing.
use Rattle.std.specs.Prelude.{Bool, ◌&&◌, List, ℕ, zero, suc, ◌+◌, ◌*◌, eqb, ℤ, pos, get_or, take, drop}
use Rattle.std.specs.Int.{w32}
use Rattle.std.proofs.Common.{to_z}
use Rattle.units.specs.Bytes.{little_endian}
use Rattle.units.specs.Table.{padded, every}
use Rattle.network.specs.Network.{breakpoint_count_limit}
use Rattle.image.specs.Parts.{curve_size_fits}
use Rattle.image.specs.declared.parts.Curve.{Curve}

-- the number m of breakpoints of the curve that starts at `at`, its length, and its bytes
abbrev pub breakpoints_at : List ℕ → ℕ → ℕ
breakpoints_at image at = get_or image at 0

abbrev pub curve_length : ℕ → ℕ
curve_length m = 8 + 8 * m

abbrev pub curve_bytes : List ℕ → ℕ → List ℕ
curve_bytes image at = take (curve_length (breakpoints_at image at)) (drop at image)

-- slope j and breakpoint j of a curve's bytes
abbrev pub slope_of : List ℕ → ℕ → ℕ
slope_of bytes j = little_endian 4 bytes (4 + 4 * j)

abbrev pub breakpoint_of : List ℕ → ℕ → ℤ
breakpoint_of bytes j = to_z w32 (little_endian 4 bytes (8 + 4 * get_or bytes 0 0 + 4 * j))

-- the curve that they are
unfoldable pub curve_in : List ℕ → Curve
curve_in bytes =
    let m = get_or bytes 0 0 in
    record {
      count = m;
      slopes = padded 0 (suc breakpoint_count_limit) (slope_of bytes) (m + 1);
      breakpoints = padded (pos 0) breakpoint_count_limit (breakpoint_of bytes) m;
    }

-- the padding is zero
abbrev pub padding_fits : List ℕ → Bool
padding_fits bytes = eqb (get_or bytes 1 0) 0 && eqb (get_or bytes 2 0) 0 && eqb (get_or bytes 3 0) 0

-- the start of curve k, the first curve being at `first`: each curve follows on the one before
unfoldable pub start_from : List ℕ → ℕ → ℕ → ℕ
start_from image first zero = first
start_from image first (suc k) = start_from image first k + curve_length (breakpoints_at image (start_from image first k))

-- `count` curves from `first` on have sizes in their range and end at `end`
unfoldable pub splits : (image : List ℕ) (first count end : ℕ) → Bool
splits image first count end = every (λ (k : ℕ). curve_size_fits (breakpoints_at image (start_from image first k))) count && eqb (start_from image first count) end
