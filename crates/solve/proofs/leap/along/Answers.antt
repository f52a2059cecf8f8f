use Rattle.std.proofs.Common.{pos, ◌-ℤ◌, ◌*ℤ◌, nat_abs, ◌≤◌, ◌*◌, ◌^◌, arith, w64, to_z-of_z}
use Rattle.std.proofs.lemmas.Int.{to_z_pos}
use native.Mathlib.Nat.{mul-le-mul}
use Rattle.units.proofs.Sizes.{abs_sub, abs_mul, minus_fits, times_fits}
use Rattle.solve.proofs.leap.along.Goals as goal

pub returns : goal.returns
returns c =
    let b = c.args.b in
    let v = c.args.v in
    let m = c.args.m in
    let gained = b -ℤ v in
    let way : nat_abs gained ≤ 2 ^ 26 = omega (arith, abs_sub b v, c.requires.0, c.requires.1) in
    let far : m * nat_abs gained ≤ 2 ^ 26 * 2 ^ 26 = mul-le-mul c.requires.2 way in
    rw (to_z-of_z c.ranges.v, to_z-of_z c.ranges.b, to_z-of_z (minus_fits b v (omega (arith, c.requires))), to_z_pos w64 m (omega (arith, c.requires.2)), to_z-of_z (times_fits (pos m) gained (omega (arith, far))))
    (to_z-of_z (minus_fits v (pos m *ℤ gained) (omega (arith, abs_mul (pos m) gained, far, c.requires.1))))
