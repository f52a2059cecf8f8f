use mathlib.Core.Path.{◌≡◌, refl, ◌∙◌, ap}
use Prim.Native.Nat.{◌≤◌, ◌<◌}
use native.Mathlib.Omega.{arith}
use lib.ListN.{length, get_or, length-take}
use Rattle.std.proofs.Common.{rules}
use Rattle.units.specs.Table.{in_turn}
use Rattle.image.proofs.Places.{curve_there}
use Rattle.image.specs.Parts.{no_curve}
use Rattle.writing.specs.Image.{curve_bytes}
use Rattle.writing.proofs.Overlaying.{among, turn_length, curve_in, curves_there, curve_length_lem}
use Rattle.writing.proofs.curve.curves_length.Goals as goal

pub loop-c-init : goal.loop-c-init
unfolding in_turn
loop-c-init c = record { long = refl; small = omega arith }

-- the length of the curve that was read
long : (c : goal.After-curve_length-total) → (c.curve_length-total.result ≡ length (curve_in c.args.parts.curves c.loop-c.c-index)) × (c.curve_length-total.result ≤ 136)
long c =
    let parts = c.args.parts in
    let k = c.loop-c.c-index in
    let there : k < parts.curve_count = omega (arith, c.loop-c-test.true, length-take parts.curve_count parts.curves) in
    let item = among parts.curves parts.curve_count k no_curve _ c.loop-c-test.true in
    let is = c.curve_length-total.ensures.0 ∙ ap (λ x. length (curve_bytes x)) item in
    let few = rw (curve_there parts k there) at (c.requires.short k there) in
    (is, omega (arith, is, curve_length_lem (get_or parts.curves k no_curve), few))

pub overflow_add-total : goal.overflow_add-total
overflow_add-total c = record { fits = omega (arith, long c) }

pub loop-c-preserved : goal.loop-c-preserved
loop-c-preserved c =
    let l = c.loop-c in
    let curves = c.args.parts.curves in
    record { long = omega (arith, l.invariant.long, (long c).0, turn_length (curve_in curves) l.c-index); small = omega (arith, l.invariant.small, (long c).1) }

pub returns : goal.returns
returns c =
    let l = c.loop-c in
    let parts = c.args.parts in
    let many : parts.curve_count ≤ length parts.curves = search rules in
    let e : l.c-index ≡ parts.curve_count = omega (arith, many, length-take parts.curve_count parts.curves, c.requires.few) in
    (l.invariant.long ∙ ap length (ap (in_turn _) e ∙ curves_there parts), omega (arith, l.invariant.small, e, c.requires.few))
