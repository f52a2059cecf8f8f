-- What the current of a curve and its greatest slope rest on. Assumes nothing.
use mathlib.Core.Path.{◌≡◌, refl, sym, ◌∙◌, ap}
use mathlib.Core.List.{List, [], ◌∷◌}
use Prim.Native.Nat.{ℕ, zero, suc, ◌+◌, ◌*◌, ◌-◌, ◌^◌, ◌≤◌, ◌<◌, max}
use native.Mathlib.Omega.{arith}
use lib.IntN.{ℤ, pos, nat_abs, ◌+ℤ◌, ◌-ℤ◌, ◌*ℤ◌}
use lib.ListN.{length, get_or, drop}
use lib.Seq.{drop-cons, ext_get_or}
use Rattle.units.specs.Voltage.{Within}
use Rattle.units.proofs.Integers.{signs, add_law, sub_law, scale_sub}
use Rattle.units.proofs.Sizes.{abs_sub}
use Rattle.units.proofs.Tables.{tabulate-length, tabulate-at}
use Rattle.network.specs.Network.{curve, reading, greatest, breakpoint_limit, conductance_limit, current_bound}
use Rattle.network.proofs.Ranges.{product_fits, current_small}
use Rattle.stretch.specs.Stretch.{stretch_of, breakpoint_in, slope_in, at_zero_in, slopes_in, breakpoints_in, curve_current, CurveReady}
use Rattle.stretch.proofs.StretchLaws.{curve_line_lem, stretch_there}

-- ---- a curve in the table, place by place

module _ (stretches : List ℤ) (first m : ℕ) where
  pub slopes_in_lem : length (slopes_in stretches first m) ≡ suc m
  unfolding slopes_in
  slopes_in_lem = tabulate-length (λ (i : ℕ). slope_in stretches (first + i)) (suc m)

  pub breakpoints_in_lem : length (breakpoints_in stretches first m) ≡ m
  unfolding breakpoints_in
  breakpoints_in_lem = tabulate-length (λ (i : ℕ). breakpoint_in stretches (first + i)) m

  pub slope_in_lem : (j : ℕ) → j ≤ m → get_or (slopes_in stretches first m) j 0 ≡ slope_in stretches (first + j)
  unfolding slopes_in
  slope_in_lem j h = tabulate-at (λ (i : ℕ). slope_in stretches (first + i)) (suc m) j 0 (omega arith)

  pub breakpoint_in_lem : (j : ℕ) → j < m → reading (breakpoints_in stretches first m) j ≡ breakpoint_in stretches (first + j)
  unfolding breakpoints_in
  breakpoint_in_lem j h = tabulate-at (λ (i : ℕ). breakpoint_in stretches (first + i)) m j (pos 0) h

  -- what a look at a row finds, as a breakpoint of the curve's own
  pub row_begins : (row : ℕ) → first ≤ row → row < first + m → breakpoint_in stretches row ≡ reading (breakpoints_in stretches first m) (row - first)
  row_begins row from to =
      let same : first + (row - first) ≡ row = omega arith in
      rw (breakpoint_in_lem (row - first) (omega arith), same) refl

  -- the curve's breakpoints are those that its rows begin with
  pub breakpoints_from : (bs : List ℤ) → length bs ≡ m → ((i : ℕ) → i < m → reading stretches (3 * (first + i) + 0) ≡ reading bs i) → breakpoints_in stretches first m ≡ bs
  breakpoints_from bs long begins = ext_get_or (pos 0) (breakpoints_in stretches first m) bs (breakpoints_in_lem ∙ sym long) (λ i h. each i (omega (arith, breakpoints_in_lem)))
    where
      zero_place : (a : ℕ) → a ≡ a + 0
      zero_place a = omega arith

      each : (i : ℕ) → i < m → reading (breakpoints_in stretches first m) i ≡ reading bs i
      each i h = breakpoint_in_lem i h ∙ ap (reading stretches) (zero_place (3 * (first + i))) ∙ begins i h

  -- ---- the greatest slope, looked for from the last on

  pub greatest_none : (i : ℕ) → i ≡ suc m → 0 ≡ greatest (drop i (slopes_in stretches first m))
  unfolding greatest
  greatest_none i e = rw (drop_past i (slopes_in stretches first m) (omega (arith, slopes_in_lem)))
    where
      drop_past : (i : ℕ) (l : List ℕ) → length l ≤ i → drop i l ≡ []
      drop_past zero [] h = refl
      drop_past zero (a ∷ l) h = absurd (omega arith)
      drop_past (suc i) [] h = refl
      drop_past (suc i) (a ∷ l) h = drop_past i l (omega arith)

  pub greatest_more : (i : ℕ) → i ≤ m → max (slope_in stretches (first + i)) (greatest (drop (suc i) (slopes_in stretches first m))) ≡ greatest (drop i (slopes_in stretches first m))
  unfolding greatest
  greatest_more i h = rw (drop-cons (slopes_in stretches first m) i 0 (omega (arith, slopes_in_lem)), slope_in_lem i h)

  -- ---- its current at v, j being the stretch that v lies in

  module _ (ready : CurveReady stretches first m) (v : ℤ) where
    pub stretch_few : stretch_of (breakpoints_in stretches first m) v ≤ m
    stretch_few = omega (arith, stretch_there (breakpoints_in stretches first m) v, breakpoints_in_lem)

    pub slope_fits_lem : (j : ℕ) → j ≤ m → slope_in stretches (first + j) ≤ conductance_limit
    slope_fits_lem j h = rw (← (slope_in_lem j h)) (ready.limits.slope j)

    -- the line that the code draws is the curve's
    pub line_is : (j : ℕ) → j ≡ stretch_of (breakpoints_in stretches first m) v → pos (slope_in stretches (first + j)) *ℤ v +ℤ at_zero_in stretches (first + j) ≡ curve_current stretches first m v
    line_is j e =
        let there : j ≤ m = omega (arith, stretch_few) in
        rw (ready.at_zero j there, ← (slope_in_lem j there), e) (sym (curve_line_lem (slopes_in stretches first m) (breakpoints_in stretches first m) (pos 0) v ready.limits.stretches ready.limits.rising))

    pub carried_fits : Within breakpoint_limit v → nat_abs (curve_current stretches first m v) ≤ current_bound
    carried_fits near = current_small (curve (slopes_in stretches first m) (breakpoints_in stretches first m)) (pos 0) v ready.limits near (omega arith)

    pub line_fits : Within breakpoint_limit v → (j : ℕ) → j ≡ stretch_of (breakpoints_in stretches first m) v → nat_abs (pos (slope_in stretches (first + j)) *ℤ v) + nat_abs (at_zero_in stretches (first + j)) < 2 ^ 63
    line_fits near j e =
        let a = pos (slope_in stretches (first + j)) *ℤ v in
        let z = at_zero_in stretches (first + j) in
        let k = curve_current stretches first m v in
        let is : k -ℤ a ≡ z = omega (signs, line_is j e, sub_law k a, add_law a z) in
        omega (
          arith,
          product_fits (slope_in stretches (first + j)) v (slope_fits_lem j (omega (arith, stretch_few))) near,
          carried_fits near,
          abs_sub k a,
          ap nat_abs is,
        )

  -- on one stretch it rises by the slope times the way
  pub one_line : (ready : CurveReady stretches first m) (from to : ℤ) (j : ℕ) → j ≡ stretch_of (breakpoints_in stretches first m) from → j ≡ stretch_of (breakpoints_in stretches first m) to → pos (slope_in stretches (first + j)) *ℤ (to -ℤ from) ≡ curve_current stretches first m to -ℤ curve_current stretches first m from
  one_line ready from to j e f =
      let g = slope_in stretches (first + j) in
      let z = at_zero_in stretches (first + j) in
      rw (← line_is ready to j f, ← line_is ready from j e, scale_sub g to from)
      (omega (signs, sub_law (pos g *ℤ to) (pos g *ℤ from), sub_law (pos g *ℤ to +ℤ z) (pos g *ℤ from +ℤ z), add_law (pos g *ℤ to) z, add_law (pos g *ℤ from) z))
