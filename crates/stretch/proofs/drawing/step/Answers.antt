use Rattle.std.proofs.Common.{◌≡◌, ◌+◌, arith, rules, w32, w64, to_z, of_z, to_z-of_z}
use Rattle.units.proofs.Sizes.{abs_sub, fits_signed}
use Rattle.network.specs.Network.{reading}
use Rattle.stretch.proofs.DrawingLaws.{few, slope_small_lem, breakpoint_small, step_is}
use Rattle.stretch.proofs.drawing.step.Goals as goal

pub offset_bounds-slopes-i : goal.offset_bounds-slopes-i
offset_bounds-slopes-i c = record { fits = omega (arith, c.requires.1, few _ _ _ c.requires.0) }

pub bounds-slopes-i : goal.bounds-slopes-i
bounds-slopes-i c = omega (arith, c.requires.1, few _ _ _ c.requires.0)

pub offset_bounds-breakpoints-i : goal.offset_bounds-breakpoints-i
offset_bounds-breakpoints-i c = record { fits = omega (arith, c.requires.1, few _ _ _ c.requires.0) }

pub bounds-breakpoints-i : goal.bounds-breakpoints-i
bounds-breakpoints-i c = omega (arith, c.requires.1, few _ _ _ c.requires.0)

pub product-requires : goal.product-requires
product-requires c =
    let z = reading c.args.breakpoints.now c.args.i in
    let f : to_z w32 (of_z w32 z) ≡ z = search rules in
    (slope_small_lem _ _ _ c.requires.0 c.args.i (omega (arith, c.requires.1)), rw f (breakpoint_small _ _ _ c.requires.0 c.args.i c.requires.1))

pub offset_bounds-slopes-i-2 : goal.offset_bounds-slopes-i-2
offset_bounds-slopes-i-2 c = record { fits = omega (arith, c.requires.1, few _ _ _ c.requires.0) }

pub bounds-slopes-i-2 : goal.bounds-slopes-i-2
bounds-slopes-i-2 c = omega (arith, c.requires.1, few _ _ _ c.requires.0)

pub product-requires-2 : goal.product-requires-2
product-requires-2 c =
    let z = reading c.args.breakpoints.now c.args.i in
    let f : to_z w32 (of_z w32 z) ≡ z = search rules in
    (slope_small_lem _ _ _ c.requires.0 (c.args.i + 1) (omega (arith, c.requires.1)), rw f (breakpoint_small _ _ _ c.requires.0 c.args.i c.requires.1))

pub overflow_sub-result : goal.overflow_sub-result
overflow_sub-result c =
    let e : to_z w64 (of_z w64 c.product.result) ≡ c.product.result = search rules in
    let f : to_z w64 (of_z w64 c.product-2.result) ≡ c.product-2.result = search rules in
    rw (e, f) (fits_signed _ (omega (arith, abs_sub c.product.result c.product-2.result, c.product.ensures.1, c.product-2.ensures.1)))

pub returns : goal.returns
returns c =
    let z = reading c.args.breakpoints.now c.args.i in
    let e : to_z w64 (of_z w64 c.product.result) ≡ c.product.result = search rules in
    let f : to_z w64 (of_z w64 c.product-2.result) ≡ c.product-2.result = search rules in
    let b : to_z w32 (of_z w32 z) ≡ z = search rules in
    rw (to_z-of_z (overflow_sub-result c), e, f)
    record {
      value = rw (c.product.ensures.0, c.product-2.ensures.0, b) (step_is c.args.slopes.now c.args.breakpoints.now c.args.m c.requires.0 c.args.i c.requires.1);
      small = omega (arith, abs_sub c.product.result c.product-2.result, c.product.ensures.1, c.product-2.ensures.1);
    }
