use Rattle.std.proofs.Common.{◌≡◌, sym, ◌∙◌, to_z-of_z, w64, to_z, of_z, rules}
use Rattle.units.specs.Voltage.{clamped}
use Rattle.units.proofs.voltage.Voltage.clamped.Goals as goal

pub returns-then-in_range : goal.returns-then-in_range
unfolding clamped
returns-then-in_range c =
    let e = to_z-of_z c.ranges.v in
    rw (e, rw e at (sym c.in_range.ensures ∙ c.if-in_range.true))

pub returns-then-v-lt0 : goal.returns-then-v-lt0
unfolding clamped
returns-then-v-lt0 c =
    let e = to_z-of_z c.ranges.v in
    rw (rw e at (sym c.in_range.ensures ∙ c.if-in_range.false), rw e at c.if-v-lt0.true)

pub returns : goal.returns
unfolding clamped
returns c =
    let e = to_z-of_z c.ranges.v in
    rw (rw e at (sym c.in_range.ensures ∙ c.if-in_range.false), rw e at c.if-v-lt0.false)
