use mathlib.Core.Path.{◌≡◌, sym, ◌∙◌}
use Prim.Native.Nat.{◌<◌}
use lib.IntN.{nat_abs}
use borrow.Author.Tests.{leb-true, leb-false}
use Rattle.units.specs.Voltage.{voltage_limit}
use Rattle.units.proofs.Integers.{le_z_false}
use Rattle.solve.proofs.PlaceLaws.{node_is}
use Rattle.solve.proofs.SweepLaws.{lowered_down}
use Rattle.solve.proofs.StepLaws.{net_small, net_is, steep_some, steep_fits, step_lowered, step_out}
use native.Mathlib.Omega.{arith}
use borrow.Author.Rules.{rules}
use mir.Syntax.{w64}
use mir.Val.{to_z, of_z}
use Rattle.solve.proofs.settle.step.Goals as goal

pub lower_by-v-requires : goal.lower_by-v-requires
lower_by-v-requires c =
    let p = c.requires.0 in
    let i = c.args.i in
    let free = c.requires.1 in
    rw (node_is p free.1, net_is p i free, c.steepest_sum.ensures) (p.evaluable.ranged i free.1, net_small p i free, steep_some p i free, steep_fits p i free)

pub returns-then-not-in_range : goal.returns-then-not-in_range
returns-then-not-in_range c =
    let p = c.requires.0 in
    let i = c.args.i in
    let free = c.requires.1 in
    let e : to_z w64 (of_z w64 c.lower_by-v.result) ≡ c.lower_by-v.result = search rules in
    let there = e ∙ (rw (node_is p free.1, net_is p i free, c.steepest_sum.ensures) at c.lower_by-v.ensures) in
    let out : voltage_limit < nat_abs (to_z w64 (of_z w64 c.lower_by-v.result)) = leb-false _ _ (sym c.in_range.ensures ∙ c.if-not-in_range.true) in
    (p, step_out p i free (le_z_false _ _ (rw (net_is p i free) at c.if-f-le0.false)) there (λ inside. omega arith))

pub returns : goal.returns
returns c =
    let p = c.requires.0 in
    let i = c.args.i in
    let free = c.requires.1 in
    let e : to_z w64 (of_z w64 c.lower_by-v.result) ≡ c.lower_by-v.result = search rules in
    let there = e ∙ (rw (node_is p free.1, net_is p i free, c.steepest_sum.ensures) at c.lower_by-v.ensures) in
    let inside = leb-true _ _ (sym c.in_range.ensures ∙ c.if-not-in_range.false) in
    let lowered = step_lowered p i free (le_z_false _ _ (rw (net_is p i free) at c.if-f-le0.false)) there inside in
    (c.plunge.ensures.0, lowered_down (rw c.put.ensures.1 lowered) c.plunge.ensures.1)
