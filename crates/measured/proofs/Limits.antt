-- The curve of a measured list is within document 01's limits, as image's rules 3 and 4 ask. Assumes nothing.
use mathlib.Core.Path.{◌≡◌}
use mathlib.Core.Bool.{true}
use mathlib.Core.List.{List}
use Prim.Native.Nat.{suc, ◌+◌, ◌-◌}
use native.Mathlib.Numerals.{add-one}
use native.Mathlib.Omega.{arith}
use lib.IntN.{ℤ}
use lib.ListN.{length}
use borrow.Author.Tests.{le-leb}
use Rattle.units.specs.Table.{every}
use Rattle.units.proofs.Every.{every_each, every_says}
use Rattle.units.proofs.Integers.{lt_z_holds}
use Rattle.network.specs.Network.{reading, breakpoint_limit, breakpoint_count_limit}
use Rattle.image.specs.Parts.{curve_size_fits, slope_fits, breakpoint_fits, rises, curve_fits}
use Rattle.image.specs.declared.parts.Curve.{Curve}
use Rattle.measured.specs.Measured.{size_at, slope_small, curve_of, slopes_fit}
use Rattle.measured.proofs.PairLaws.{PairsSay, volt_small}
use Rattle.measured.proofs.Through.{many, breakpoint_at_lem, slope_at_lem}

module _ (volts amps : List ℤ) (say : PairsSay volts amps) where
  abbrev c : Curve
  c = curve_of volts amps

  -- rule 3
  pub size_fits : curve_size_fits c.count ≡ true
  size_fits =
      let m = many volts amps say in
      rw (le-leb 1 c.count (omega (arith, m, say.some)), le-leb c.count breakpoint_count_limit (omega (arith, m, say.few)))

  -- rule 4
  module _ (steep : slopes_fit volts amps ≡ true) where
    slopes_fit_lem : every (slope_fits c.slopes) (c.count + 1) ≡ true
    unfolding slopes_fit
    slopes_fit_lem =
        every_each (slope_fits c.slopes) (c.count + 1)
        (λ i h. rw (slope_at_lem volts amps say i (omega arith)) (every_says (slope_small volts amps) (length volts) i steep (omega (arith, many volts amps say))))

    breakpoints_fit : every (breakpoint_fits c.breakpoints) c.count ≡ true
    breakpoints_fit =
        every_each (breakpoint_fits c.breakpoints) c.count
        (λ i h. rw (breakpoint_at_lem volts amps say i h) (le-leb (size_at volts i) breakpoint_limit (volt_small volts amps say i)))

    rising : every (rises c.breakpoints) (c.count - 1) ≡ true
    rising =
        every_each (rises c.breakpoints) (c.count - 1)
        (λ i h. rw (add-one i, breakpoint_at_lem volts amps say i (omega arith), breakpoint_at_lem volts amps say (suc i) (omega arith)) (lt_z_holds (reading volts i) (reading volts (suc i)) (say.next i (omega (arith, many volts amps say))).rises))

    pub curve_fits_lem : curve_fits c ≡ true
    unfolding curve_fits
    curve_fits_lem = rw (slopes_fit_lem, breakpoints_fit, rising)
