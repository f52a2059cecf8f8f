use mathlib.Core.Path.{◌≡◌, sym, ◌∙◌, ap}
use Prim.Native.Nat.{◌+◌, ◌-◌, ◌/◌, ◌≤◌}
use native.Mathlib.Omega.{arith}
use mir.Syntax.{w64}
use mir.Val.{to_z, of_z}
use borrow.Author.Rules.{rules}
use Rattle.stretch.specs.Stretch.{breakpoint_in, breakpoints_in}
use Rattle.stretch.proofs.CurveLaws.{breakpoints_in_lem, breakpoint_in_lem}
use Rattle.stretch.proofs.Halving.{Between, between_all, between_half}
use Rattle.stretch.proofs.curve.Curve.near.Goals as goal

pub loop-left-init : goal.loop-left-init
loop-left-init c = (search rules, between_all _ _ _ _ (omega arith) (sym (breakpoints_in_lem c.args.self.now.stretches.now c.args.self.now.first c.args.self.now.breakpoints)))

pub overflow_add-row : goal.overflow_add-row
overflow_add-row c = record {
  fits =
      let room : c.loop-left.row + c.loop-left.left ≤ c.args.self.now.first + c.args.self.now.breakpoints = omega (arith, c.loop-left.invariant.0, c.loop-left.invariant.1.there, breakpoints_in_lem c.args.self.now.stretches.now c.args.self.now.first c.args.self.now.breakpoints) in
      omega (arith, room, c.requires.0);
}

pub breakpoint-requires : goal.breakpoint-requires
breakpoint-requires c =
    let room : c.loop-left.row + c.loop-left.left ≤ c.args.self.now.first + c.args.self.now.breakpoints = omega (arith, c.loop-left.invariant.0, c.loop-left.invariant.1.there, breakpoints_in_lem c.args.self.now.stretches.now c.args.self.now.first c.args.self.now.breakpoints) in
    omega (arith, room, c.requires.0, c.loop-left-test.true)

-- what the look leaves
next : (c : goal.After-passed-row) → Between (breakpoints_in c.args.self.now.stretches.now c.args.self.now.first c.args.self.now.breakpoints) (to_z w64 (of_z w64 c.args.v)) (c.loop-left.row - c.args.self.now.first + c.passed-row.result) (c.loop-left.left - c.loop-left.left / 2)
next c =
    let room : c.loop-left.row + c.loop-left.left ≤ c.args.self.now.first + c.args.self.now.breakpoints = omega (arith, c.loop-left.invariant.0, c.loop-left.invariant.1.there, breakpoints_in_lem c.args.self.now.stretches.now c.args.self.now.first c.args.self.now.breakpoints) in
    let l = c.loop-left in
    let bs = breakpoints_in c.args.self.now.stretches.now c.args.self.now.first c.args.self.now.breakpoints in
    let half = l.left / 2 in
    let j = l.row - c.args.self.now.first in
    let e : to_z w64 (of_z w64 c.breakpoint.result) ≡ c.breakpoint.result = search rules in
    let same : c.args.self.now.first + (j + half - 1) ≡ l.row + half - 1 = omega (arith, l.invariant.0, c.loop-left-test.true) in
    let at = e ∙ c.breakpoint.ensures ∙ ap (breakpoint_in c.args.self.now.stretches.now) (sym same) ∙ sym (breakpoint_in_lem c.args.self.now.stretches.now c.args.self.now.first c.args.self.now.breakpoints (j + half - 1) (omega (arith, room, l.invariant.0, c.loop-left-test.true))) in
    rw ((rw at at c.passed-row.ensures)) (between_half bs (to_z w64 (of_z w64 c.args.v)) c.requires.1 j l.left half l.invariant.1 (omega (arith, c.loop-left-test.true)) (omega arith))

pub overflow_add-row-in-loop-left : goal.overflow_add-row-in-loop-left
overflow_add-row-in-loop-left c =
    record { fits = omega (arith, (next c).there, c.loop-left.invariant.0, breakpoints_in_lem c.args.self.now.stretches.now c.args.self.now.first c.args.self.now.breakpoints, c.requires.0) }

pub loop-left-preserved : goal.loop-left-preserved
loop-left-preserved c =
    let l = c.loop-left in
    let same : l.row + c.passed-row.result - c.args.self.now.first ≡ l.row - c.args.self.now.first + c.passed-row.result = omega (arith, l.invariant.0) in
    (omega (arith, l.invariant.0), rw same (next c))
