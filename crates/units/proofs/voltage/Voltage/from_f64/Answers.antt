use Rattle.std.proofs.Common.{◌≡◌, pos, neg_ℤ, refl, ap, ◌∙◌, arith, w64, to_z, of_z, rules}
use Rattle.units.proofs.Sizes.{minus_is}
use lib.Ieee.{of_bits}
use lib.IntN.{+ℤ_idl}
use Rattle.units.specs.Float.{rounded}
use Rattle.units.proofs.Rounding.{positive, positive_neg, above_zero, below_zero, too_high, too_low, at_zero, not_a_number}
use Rattle.units.proofs.voltage.Voltage.from_f64.Goals as goal

pub nearest_size-requires : goal.nearest_size-requires
unfolding of_bits
nearest_size-requires c = positive c.args.x c.if-x.true c.if-x-2.true

pub returns-then-x-2 : goal.returns-then-x-2
unfolding of_bits
returns-then-x-2 c =
    let x = c.args.x in
    let k = positive x c.if-x.true c.if-x-2.true in
    let n = c.nearest_size.result in
    let e : to_z w64 (of_z w64 n) ≡ n = search rules in
    c.ranged.ensures ∙ ap rounded (e ∙ c.nearest_size.ensures.value) ∙ above_zero x k

pub returns-then-x : goal.returns-then-x
unfolding of_bits
returns-then-x c = too_high c.args.x c.if-x.true c.if-x-2.false

pub nearest_size-requires-then-y : goal.nearest_size-requires-then-y
unfolding of_bits
nearest_size-requires-then-y c = positive_neg c.args.x c.if-x-3.true c.if-y.true

pub returns-then-y : goal.returns-then-y
unfolding of_bits
returns-then-y c =
    let x = c.args.x in
    let k = positive_neg x c.if-x-3.true c.if-y.true in
    let n = c.nearest_size-then-y.result in
    let e : to_z w64 (of_z w64 n) ≡ n = search rules in
    let d = minus_is (pos 0) (to_z w64 (of_z w64 n)) (pos 0) n refl e (omega (arith, c.nearest_size-then-y.ensures.result_bound)) in
    let turned = d ∙ +ℤ_idl (neg_ℤ n) ∙ ap neg_ℤ c.nearest_size-then-y.ensures.value in
    c.ranged-then-y.ensures ∙ ap rounded turned ∙ below_zero x k

pub returns-then-x-3 : goal.returns-then-x-3
unfolding of_bits
returns-then-x-3 c = too_low c.args.x c.if-x-3.true c.if-y.false

pub returns-then-x-4 : goal.returns-then-x-4
unfolding of_bits
returns-then-x-4 c = c.ranged-then-x-4.ensures ∙ at_zero c.args.x c.if-x-4.true

pub returns : goal.returns
unfolding of_bits
returns c = not_a_number c.args.x c.if-x.false c.if-x-3.false c.if-x-4.false
