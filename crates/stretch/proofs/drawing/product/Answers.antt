use Rattle.std.proofs.Common.{◌≡◌, refl, pos, ◌*ℤ◌, arith, w32, w64, to_z, of_z, to_z-of_z, SFits}
use Rattle.std.proofs.lemmas.Int.{to_z_pos}
use Rattle.units.proofs.Sizes.{abs_mul, fits_signed}
use Rattle.network.proofs.Ranges.{product_fits}
use Rattle.stretch.proofs.drawing.product.Goals as goal

-- both numbers at 64 bits, and their product
product_is : (c : goal.Start) → to_z w64 c.args.slope *ℤ to_z w64 (of_z w64 (to_z w32 (of_z w32 c.args.b))) ≡ pos c.args.slope *ℤ c.args.b
product_is c =
    let wide : SFits w64 c.args.b = record { sfits = omega (arith, c.ranges.b.sfits) } in
    rw (to_z_pos w64 c.args.slope (omega (arith, c.ranges.slope.fits)), to_z-of_z c.ranges.b, to_z-of_z wide)

pub overflow_mul-result : goal.overflow_mul-result
overflow_mul-result c = rw (product_is c) (fits_signed _ (omega (arith, abs_mul (pos c.args.slope) c.args.b, product_fits c.args.slope c.args.b c.requires.0 c.requires.1)))

pub returns : goal.returns
returns c = rw (to_z-of_z (overflow_mul-result c), product_is c) (refl, omega (arith, abs_mul (pos c.args.slope) c.args.b, product_fits c.args.slope c.args.b c.requires.0 c.requires.1))
