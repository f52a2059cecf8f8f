use Rattle.std.proofs.Common.{◌≡◌, ◌+◌, ◌∙◌, refl, ap, pos, ◌*ℤ◌, arith, rules, w64, to_z, of_z, to_z-of_z, SFits}
use Rattle.std.proofs.lemmas.Int.{to_z_pos}
use Rattle.units.proofs.Sizes.{abs_add, fits_signed}
use Rattle.stretch.specs.Stretch.{stretch_of, breakpoints_in, slope_in, at_zero_in}
use Rattle.stretch.proofs.CurveLaws.{stretch_few, slope_fits_lem, line_is, line_fits}
use Rattle.stretch.proofs.curve.Curve.line.Goals as goal

pub slope-requires : goal.slope-requires
slope-requires c =
    let s = c.args.self.now in
    omega (arith, stretch_few s.stretches.now s.first s.breakpoints c.requires.0 c.args.v, c.requires.2, c.requires.0.there)

pub overflow_cast-result : goal.overflow_cast-result
overflow_cast-result c =
    let s = c.args.self.now in
    let j = stretch_of (breakpoints_in s.stretches.now s.first s.breakpoints) c.args.v in
    let there = stretch_few s.stretches.now s.first s.breakpoints c.requires.0 c.args.v in
    record { sfits = omega (arith, c.slope.ensures, ap (slope_in s.stretches.now) c.requires.2, slope_fits_lem s.stretches.now s.first s.breakpoints c.requires.0 c.args.v j there) }

-- the slope and the current at zero volts as they are read
slope_is : (c : goal.After-slope) → to_z w64 c.slope.result ≡ pos (slope_in c.args.self.now.stretches.now (c.args.self.now.first + stretch_of (breakpoints_in c.args.self.now.stretches.now c.args.self.now.first c.args.self.now.breakpoints) c.args.v))
slope_is c = to_z_pos w64 _ (overflow_cast-result c).sfits ∙ ap pos (c.slope.ensures ∙ ap (slope_in c.args.self.now.stretches.now) c.requires.2)

-- what the code's sum is made of
product_is : (c : goal.After-slope) → SFits w64 (to_z w64 c.slope.result *ℤ to_z w64 (of_z w64 c.args.v))
product_is c =
    let s = c.args.self.now in
    rw (slope_is c, to_z-of_z c.ranges.v) (fits_signed _ (omega (arith, line_fits s.stretches.now s.first s.breakpoints c.requires.0 c.args.v c.requires.1 _ refl)))

pub overflow_mul-result : goal.overflow_mul-result
overflow_mul-result c = product_is c

pub at_zero-requires : goal.at_zero-requires
at_zero-requires c =
    let s = c.args.self.now in
    omega (arith, stretch_few s.stretches.now s.first s.breakpoints c.requires.0 c.args.v, c.requires.2, c.requires.0.there)

pub overflow_add-result : goal.overflow_add-result
overflow_add-result c =
    let s = c.args.self.now in
    let j = stretch_of (breakpoints_in s.stretches.now s.first s.breakpoints) c.args.v in
    let e : to_z w64 (of_z w64 c.at_zero.result) ≡ c.at_zero.result = search rules in
    let z = e ∙ c.at_zero.ensures ∙ ap (at_zero_in s.stretches.now) c.requires.2 in
    rw (to_z-of_z (product_is c.before), slope_is c.before, to_z-of_z c.ranges.v, z)
    (fits_signed _ (omega (arith, line_fits s.stretches.now s.first s.breakpoints c.requires.0 c.args.v c.requires.1 _ refl, abs_add (pos (slope_in s.stretches.now (s.first + j)) *ℤ c.args.v) (at_zero_in s.stretches.now (s.first + j)))))

pub returns : goal.returns
returns c =
    let s = c.args.self.now in
    let e : to_z w64 (of_z w64 c.at_zero.result) ≡ c.at_zero.result = search rules in
    let z = e ∙ c.at_zero.ensures ∙ ap (at_zero_in s.stretches.now) c.requires.2 in
    to_z-of_z (overflow_add-result c) ∙ rw (to_z-of_z (product_is c.before), slope_is c.before, to_z-of_z c.ranges.v, z) (line_is s.stretches.now s.first s.breakpoints c.requires.0 c.args.v _ refl)
