use Rattle.std.proofs.Common.{◌≡◌, ◌+◌, refl, ap, nat_abs, ◌-ℤ◌, arith, rules, w64, to_z, of_z, to_z-of_z, SFits}
use Rattle.units.proofs.Sizes.{abs_sub, fits_signed}
use Rattle.stretch.specs.Stretch.{at_zero_in}
use Rattle.stretch.proofs.DrawingLaws.{lowered_more}
use Rattle.stretch.proofs.drawing.lower.Goals as goal

pub loop-i-preserved : goal.loop-i-preserved
loop-i-preserved c =
    let l = c.loop-i in
    let current = c.args.current in
    let line = at_zero_in l.stretches (c.args.first + l.i) in
    let e : to_z w64 (of_z w64 line) ≡ line = search rules in
    let same : line ≡ at_zero_in c.args.stretches.now (c.args.first + l.i) = l.invariant.elsewhere _ (λ k h e. omega arith) in
    let fits : SFits w64 (line -ℤ current) = fits_signed _ (omega (arith, abs_sub line current, ap nat_abs same, c.requires.2 l.i c.loop-i-test.true)) in
    rw (e, to_z-of_z c.ranges.current, to_z-of_z fits) (lowered_more c.args.stretches.now c.args.first current l.i l.stretches (line -ℤ current) (omega (arith, c.requires.0, c.requires.1, c.loop-i-test.true)) refl (rw (to_z-of_z c.ranges.current) at l.invariant))
