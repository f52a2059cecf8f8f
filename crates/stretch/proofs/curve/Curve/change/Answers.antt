use Rattle.std.proofs.Common.{◌≡◌, ◌+◌, ◌*◌, ◌≤◌, ◌∙◌, refl, ap, pos, nat_abs, ◌-ℤ◌, ◌*ℤ◌, arith, rules, w64, to_z, of_z, to_z-of_z}
use native.Mathlib.Nat.{mul-le-mul}
use Rattle.std.proofs.lemmas.Int.{to_z_pos}
use Rattle.units.proofs.Sizes.{abs_sub, abs_mul, fits_signed}
use Rattle.network.specs.Network.{breakpoint_limit}
use Rattle.stretch.specs.Stretch.{stretch_of, breakpoints_in, slope_in, curve_current}
use Rattle.stretch.proofs.CurveLaws.{stretch_few, slope_fits_lem, carried_fits, one_line}
use Rattle.stretch.proofs.curve.Curve.change.Goals as goal

pub lies_in-requires : goal.lies_in-requires
lies_in-requires c =
    let s = c.args.self.now in
    let there = stretch_few s.stretches.now s.first s.breakpoints c.requires.0 c.args.from in
    let found = rw (to_z-of_z c.ranges.from) at c.row_of-row.ensures in
    (c.requires.0.there, c.requires.0.limits.rising, omega (arith, found), omega (arith, found, there))

pub slope-requires : goal.slope-requires
slope-requires c =
    let s = c.args.self.now in
    let there = stretch_few s.stretches.now s.first s.breakpoints c.requires.0 c.args.from in
    let found = rw (to_z-of_z c.ranges.from) at c.row_of-row.ensures in
    omega (arith, found, there, c.requires.0.there)

pub overflow_cast-result : goal.overflow_cast-result
overflow_cast-result c =
    let s = c.args.self.now in
    let j = stretch_of (breakpoints_in s.stretches.now s.first s.breakpoints) c.args.from in
    let there = stretch_few s.stretches.now s.first s.breakpoints c.requires.0 c.args.from in
    let found = rw (to_z-of_z c.ranges.from) at c.row_of-row.ensures in
    record { sfits = omega (arith, c.slope.ensures, ap (slope_in s.stretches.now) found, slope_fits_lem s.stretches.now s.first s.breakpoints c.requires.0 c.args.from j there) }

-- the slope of the stretch, and the way on it
slope_is : (c : goal.After-slope) → to_z w64 c.slope.result ≡ pos (slope_in c.args.self.now.stretches.now (c.args.self.now.first + stretch_of (breakpoints_in c.args.self.now.stretches.now c.args.self.now.first c.args.self.now.breakpoints) c.args.from))
slope_is c =
    let s = c.args.self.now in
    let found = rw (to_z-of_z c.ranges.from) at c.row_of-row.ensures in
    to_z_pos w64 _ (overflow_cast-result c).sfits ∙ ap pos (c.slope.ensures ∙ ap (slope_in s.stretches.now) found)

way_is : (c : goal.After-slope) → to_z w64 (of_z w64 (to_z w64 (of_z w64 c.args.to) -ℤ to_z w64 (of_z w64 c.args.from))) ≡ c.args.to -ℤ c.args.from
way_is c =
    let small = abs_sub c.args.to c.args.from in
    rw (to_z-of_z c.ranges.to, to_z-of_z c.ranges.from) (to_z-of_z (fits_signed (c.args.to -ℤ c.args.from) (omega (arith, small, c.requires.1, c.requires.2))))

pub overflow_mul-result : goal.overflow_mul-result
overflow_mul-result c =
    let s = c.args.self.now in
    let j = stretch_of (breakpoints_in s.stretches.now s.first s.breakpoints) c.args.from in
    let g = slope_in s.stretches.now (s.first + j) in
    let way = c.args.to -ℤ c.args.from in
    let there = stretch_few s.stretches.now s.first s.breakpoints c.requires.0 c.args.from in
    let near : nat_abs way ≤ 2 * breakpoint_limit = omega (arith, abs_sub c.args.to c.args.from, c.requires.1, c.requires.2) in
    let small = mul-le-mul (slope_fits_lem s.stretches.now s.first s.breakpoints c.requires.0 c.args.from j there) near in
    rw (slope_is c, way_is c) (fits_signed (pos g *ℤ way) (omega (arith, abs_mul (pos g) way, small)))

pub returns-then-lies_in : goal.returns-then-lies_in
returns-then-lies_in c =
    let s = c.args.self.now in
    let found = rw (to_z-of_z c.ranges.from) at c.row_of-row.ensures in
    let lies = rw (to_z-of_z c.ranges.to) at (c.lies_in.ensures c.if-lies_in.true) in
    to_z-of_z (overflow_mul-result c) ∙ rw (slope_is c, way_is c) (one_line s.stretches.now s.first s.breakpoints c.requires.0 c.args.from c.args.to _ refl (omega (arith, found, lies)))

-- both ends by their own lines
to_is : (c : goal.After-line) → to_z w64 (of_z w64 c.current.result) ≡ curve_current c.args.self.now.stretches.now c.args.self.now.first c.args.self.now.breakpoints c.args.to
to_is c =
    let e : to_z w64 (of_z w64 c.current.result) ≡ c.current.result = search rules in
    e ∙ (rw (to_z-of_z c.ranges.to) at c.current.ensures)

from_is : (c : goal.After-line) → to_z w64 (of_z w64 c.line.result) ≡ curve_current c.args.self.now.stretches.now c.args.self.now.first c.args.self.now.breakpoints c.args.from
from_is c =
    let e : to_z w64 (of_z w64 c.line.result) ≡ c.line.result = search rules in
    e ∙ (rw (to_z-of_z c.ranges.from) at c.line.ensures)

pub overflow_sub-result-2 : goal.overflow_sub-result-2
overflow_sub-result-2 c =
    let s = c.args.self.now in
    rw (to_is c, from_is c) (fits_signed _ (omega (arith, abs_sub (curve_current s.stretches.now s.first s.breakpoints c.args.to) (curve_current s.stretches.now s.first s.breakpoints c.args.from), carried_fits s.stretches.now s.first s.breakpoints c.requires.0 c.args.to c.requires.2, carried_fits s.stretches.now s.first s.breakpoints c.requires.0 c.args.from c.requires.1)))

pub returns : goal.returns
returns c = to_z-of_z (overflow_sub-result-2 c) ∙ rw (to_is c, from_is c)
