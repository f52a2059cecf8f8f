use Rattle.std.proofs.Common.{◌≡◌, pos, ◌+ℤ◌, arith, rules, w64, to_z, of_z, to_z-of_z}
use Rattle.std.proofs.lemmas.Int.{to_z_pos}
use Rattle.units.proofs.Integers.{signs, add_law, pos_law}
use Rattle.units.proofs.Clamping.{clamped_ranged}
use Rattle.units.proofs.Sizes.{plus_fits}
use Rattle.solve.proofs.ClimbLaws.{clamped_over}
use Rattle.solve.proofs.climb.further.Goals as goal

pub returns : goal.returns
returns c =
    let s = c.args.s in
    let t = c.args.t in
    let sum = s +ℤ pos t in
    let fits = plus_fits s (pos t) (omega (arith, c.requires.0, c.requires.1)) in
    let is = rw (to_z-of_z c.ranges.s, to_z_pos w64 t (omega (arith, c.requires.1)), to_z-of_z fits) at c.clamped.ensures in
    let e : to_z w64 (of_z w64 c.clamped.result) ≡ c.clamped.result = search rules in
    rw (e, is) (clamped_ranged sum, clamped_over s sum c.requires.0 (omega (signs, add_law s (pos t), pos_law t)))
