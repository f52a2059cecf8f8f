use Rattle.std.proofs.Common.{◌≡◌, pos, nat_abs, ◌∙◌, refl, arith, w64, to_z-of_z}
use Rattle.std.proofs.lemmas.Int.{to_z_pos}
use Rattle.units.specs.Integer.{rounded_up}
use Rattle.units.proofs.Sizes.{minus_fits}
use Rattle.solve.proofs.StepLaws.{rounded_up_small}
use Rattle.solve.proofs.settle.lower_by.Goals as goal

-- how far it goes
far : (c : goal.After-rounded_up) → c.rounded_up.result ≡ rounded_up (nat_abs c.args.f) c.args.s
far c = rw (c.unsigned_abs.ensures.value, to_z-of_z c.ranges.f) at c.rounded_up.ensures

pub overflow_cast-result : goal.overflow_cast-result
overflow_cast-result c = record { sfits = omega (arith, far c, rounded_up_small (nat_abs c.args.f) c.args.s c.requires.2, c.requires.1) }

pub overflow_sub-result : goal.overflow_sub-result
overflow_sub-result c =
    rw (to_z-of_z c.ranges.v, to_z_pos w64 _ (overflow_cast-result c).sfits)
    (minus_fits c.args.v (pos c.rounded_up.result) (omega (arith, far c, rounded_up_small (nat_abs c.args.f) c.args.s c.requires.2, c.requires.1, c.requires.0)))

pub returns : goal.returns
returns c = to_z-of_z (overflow_sub-result c) ∙ rw (to_z-of_z c.ranges.v, to_z_pos w64 _ (overflow_cast-result c).sfits, far c) refl
