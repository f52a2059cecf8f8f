-- A curve in the image: from what stands there to what is read, and back. Assumes nothing.
use mathlib.Core.Path.{◌≡◌, refl, sym, ◌∙◌}
use mathlib.Core.Bool.{true}
use mathlib.Core.List.{List, ◌++◌}
use Prim.Native.Nat.{ℕ, suc, ◌+◌, ◌*◌, ◌≤◌, ◌<◌}
use native.Mathlib.Omega.{arith}
use lib.Dec.{eqb}
use lib.IntN.{ℤ, pos}
use lib.ListN.{length, get_or}
use mir.Syntax.{w32}
use mir.Val.{to_z, of_z}
use mir.Facts.{to_z-of_z, Fits-of_z}
use mir.ValLaws.{of_z-to_z}
use borrow.Author.Tests.{eqb-true}
use Rattle.units.specs.Bytes.{little_endian}
use Rattle.units.specs.Table.{padded, in_turn}
use Rattle.units.proofs.Every.{both}
use Rattle.units.proofs.LittleEndian.{little_endian_small}
use Rattle.units.proofs.Tables.{padded_at, padded-same}
use Rattle.network.specs.Network.{reading, breakpoint_count_limit}
use Rattle.image.specs.Curve.{curve_length, slope_of, breakpoint_of, curve_in, padding_fits}
use Rattle.image.specs.declared.parts.Curve.{Curve}
use Rattle.writing.specs.Image.{slope_bytes, breakpoint_bytes, curve_bytes}
use Rattle.writing.specs.Reached.{reached_curve, CurveInWidths}
use Rattle.writing.proofs.Stands.{Stands, more, stands_self, stands_first, stands_second, stands_both, stands_turn, stands_turns, stands_number, number_stands, stands_whole}
use Rattle.writing.proofs.Overlaying.{slopes_length, breakpoints_length, curve_length_lem}

-- ---- what is read

module _ (s : List ℕ) (c : Curve) (small : CurveInWidths c) where
  -- its slopes stand from the fourth byte on, and its breakpoints behind them
  module _ (h : Stands s 4 (in_turn (slope_bytes c.slopes) (c.count + 1) ++ in_turn (breakpoint_bytes c.breakpoints) c.count)) where
    slope_read : (j : ℕ) → j < c.count + 1 → slope_of s j ≡ get_or c.slopes j 0
    slope_read j l =
        let there = stands_turn (slope_bytes c.slopes) (c.count + 1) j l (stands_first (in_turn (slope_bytes c.slopes) (c.count + 1)) (in_turn (breakpoint_bytes c.breakpoints) c.count) h) in
        stands_number 4 (get_or c.slopes j 0) (small.slopes j (omega arith)) (rw (slopes_length c.slopes j) at there)

    breakpoint_read : (j : ℕ) → j < c.count → get_or s 0 0 ≡ c.count → breakpoint_of s j ≡ reading c.breakpoints j
    breakpoint_read j l e =
        let z = reading c.breakpoints j in
        let fits = small.breakpoints j l in
        let all = rw (slopes_length c.slopes (c.count + 1)) at (stands_second (in_turn (slope_bytes c.slopes) (c.count + 1)) (in_turn (breakpoint_bytes c.breakpoints) c.count) h) in
        let there = rw (breakpoints_length c.breakpoints j) at (stands_turn (breakpoint_bytes c.breakpoints) c.count j l all) in
        let place : 8 + 4 * c.count + 4 * j ≡ 4 + 4 * (c.count + 1) + 4 * j = omega arith in
        rw (e, place, stands_number 4 (of_z w32 z) (Fits-of_z fits).fits there) (to_z-of_z fits)

  curve_found : Stands s 0 (curve_bytes c) → curve_in s ≡ reached_curve c
  unfolding curve_bytes curve_in reached_curve
  curve_found (more e (more p (more q (more r rest)))) =
      rw (e, padded-same 0 (suc breakpoint_count_limit) (slope_of s) (λ (j : ℕ). get_or c.slopes j 0) (c.count + 1) (slope_read rest), padded-same (pos 0) breakpoint_count_limit (breakpoint_of s) (reading c.breakpoints) c.count (λ j l. breakpoint_read rest j l e))

-- a curve's bytes are read as far as it reaches
pub curve_read : (c : Curve) → CurveInWidths c → curve_in (curve_bytes c) ≡ reached_curve c
curve_read c small = curve_found (curve_bytes c) c small (stands_self (curve_bytes c))

-- ---- what is written

module _ (s : List ℕ) (bytes : (i : ℕ) → get_or s i 0 < 256) (few : get_or s 0 0 ≤ breakpoint_count_limit) where
  abbrev m : ℕ
  m = get_or s 0 0

  abbrev slopes : List ℕ
  slopes = padded 0 (suc breakpoint_count_limit) (slope_of s) (m + 1)

  abbrev breakpoints : List ℤ
  breakpoints = padded (pos 0) breakpoint_count_limit (breakpoint_of s) m

  slopes_stand : Stands s 4 (in_turn (slope_bytes slopes) (m + 1))
  slopes_stand =
      stands_turns (slope_bytes slopes) (m + 1)
      (λ j l. rw (slopes_length slopes j, padded_at 0 (suc breakpoint_count_limit) (slope_of s) (m + 1) j (omega arith) l) (number_stands 4 (4 + 4 * j) bytes))

  breakpoints_stand : Stands s (4 + length (in_turn (slope_bytes slopes) (m + 1))) (in_turn (breakpoint_bytes breakpoints) m)
  breakpoints_stand =
      stands_turns (breakpoint_bytes breakpoints) m
      (λ j l.
      let place : 4 + 4 * (m + 1) + 4 * j ≡ 8 + 4 * m + 4 * j = omega arith in
      let n = little_endian 4 s (8 + 4 * m + 4 * j) in
      let back : of_z w32 (to_z w32 n) ≡ n = of_z-to_z w32 n (record { fits = little_endian_small 4 s (8 + 4 * m + 4 * j) bytes }) in
      rw (slopes_length slopes (m + 1), breakpoints_length breakpoints j, place, padded_at (pos 0) breakpoint_count_limit (breakpoint_of s) m j (omega arith) l, back) (number_stands 4 (8 + 4 * m + 4 * j) bytes))

  -- the bytes of the curve that is read are those that it is read from
  pub curve_written : length s ≡ curve_length m → padding_fits s ≡ true → curve_bytes (curve_in s) ≡ s
  unfolding curve_in curve_bytes
  curve_written long padding =
      let a = both {b = eqb (get_or s 3 0) 0} padding in
      let b = both {a = eqb (get_or s 1 0) 0} {b = eqb (get_or s 2 0) 0} a.0 in
      sym
      (stands_whole
      (more refl (more (eqb-true (get_or s 1 0) 0 b.0) (more (eqb-true (get_or s 2 0) 0 b.1) (more (eqb-true (get_or s 3 0) 0 a.1)
      (stands_both (in_turn (slope_bytes slopes) (m + 1)) (in_turn (breakpoint_bytes breakpoints) m) slopes_stand breakpoints_stand)))))
      (long ∙ sym (curve_length_lem (curve_in s))))
