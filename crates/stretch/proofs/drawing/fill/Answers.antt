use mathlib.Core.Path.{◌≡◌, ◌∙◌}
use Prim.Native.Nat.{◌+◌, ◌≤◌}
use native.Mathlib.Omega.{arith}
use lib.IntN.{pos}
use mir.Syntax.{w64}
use mir.Val.{to_z, of_z}
use borrow.Author.Rules.{rules}
use Rattle.stretch.specs.Stretch.{stretch_of, breakpoints_to, at_zero_in}
use Rattle.stretch.proofs.StretchLaws.{stretch_there}
use Rattle.stretch.proofs.DrawingLaws.{breakpoints_to_lem, drawn_breakpoints, drawn_rising, drawn_close, lowered_fills}
use Rattle.stretch.proofs.drawing.fill.Goals as goal

pub stretch-requires : goal.stretch-requires
stretch-requires c =
    (c.requires.1, drawn_rising _ _ c.args.m (breakpoints_to_lem c.args.slopes.now c.args.breakpoints.now c.args.m) _ (c.draw.new.stretches) _ c.draw.ensures c.requires.0)

pub overflow_add-zero : goal.overflow_add-zero
overflow_add-zero c = record {
  fits =
      let found : c.stretch.result ≡ stretch_of (breakpoints_to c.args.breakpoints.now c.args.m) (pos 0) = rw (drawn_breakpoints _ _ c.args.m (breakpoints_to_lem c.args.slopes.now c.args.breakpoints.now c.args.m) _ (c.draw.new.stretches) c.args.first c.draw.ensures) at c.stretch.ensures in
      let there : c.stretch.result ≤ c.args.m = omega (arith, found, stretch_there (breakpoints_to c.args.breakpoints.now c.args.m) (pos 0), breakpoints_to_lem c.args.slopes.now c.args.breakpoints.now c.args.m) in
      omega (arith, there, c.requires.1);
}

pub at_zero-current-requires : goal.at_zero-current-requires
at_zero-current-requires c =
    let found : c.stretch.result ≡ stretch_of (breakpoints_to c.args.breakpoints.now c.args.m) (pos 0) = rw (drawn_breakpoints _ _ c.args.m (breakpoints_to_lem c.args.slopes.now c.args.breakpoints.now c.args.m) _ (c.draw.new.stretches) c.args.first c.draw.ensures) at c.stretch.ensures in
    let there : c.stretch.result ≤ c.args.m = omega (arith, found, stretch_there (breakpoints_to c.args.breakpoints.now c.args.m) (pos 0), breakpoints_to_lem c.args.slopes.now c.args.breakpoints.now c.args.m) in
    omega (arith, there, c.requires.1)

pub lower-requires : goal.lower-requires
lower-requires c =
    let found : c.stretch.result ≡ stretch_of (breakpoints_to c.args.breakpoints.now c.args.m) (pos 0) = rw (drawn_breakpoints _ _ c.args.m (breakpoints_to_lem c.args.slopes.now c.args.breakpoints.now c.args.m) _ (c.draw.new.stretches) c.args.first c.draw.ensures) at c.stretch.ensures in
    let there : c.stretch.result ≤ c.args.m = omega (arith, found, stretch_there (breakpoints_to c.args.breakpoints.now c.args.m) (pos 0), breakpoints_to_lem c.args.slopes.now c.args.breakpoints.now c.args.m) in
    let at_own : to_z w64 (of_z w64 c.at_zero-current.result) ≡ at_zero_in (c.draw.new.stretches) (c.args.first + c.stretch.result) = let e : to_z w64 (of_z w64 c.at_zero-current.result) ≡ c.at_zero-current.result = search rules in e ∙ c.at_zero-current.ensures in
    let n = breakpoints_to_lem c.args.slopes.now c.args.breakpoints.now c.args.m in (
      omega (arith, c.requires.1),
      c.draw.ensures.long ∙ c.requires.2,
      λ i h. rw at_own (drawn_close _ _ c.args.m n _ (c.draw.new.stretches) c.args.first c.draw.ensures c.requires.0 i c.stretch.result (omega arith) there),
    )

pub returns : goal.returns
returns c =
    let found : c.stretch.result ≡ stretch_of (breakpoints_to c.args.breakpoints.now c.args.m) (pos 0) = rw (drawn_breakpoints _ _ c.args.m (breakpoints_to_lem c.args.slopes.now c.args.breakpoints.now c.args.m) _ (c.draw.new.stretches) c.args.first c.draw.ensures) at c.stretch.ensures in
    let there : c.stretch.result ≤ c.args.m = omega (arith, found, stretch_there (breakpoints_to c.args.breakpoints.now c.args.m) (pos 0), breakpoints_to_lem c.args.slopes.now c.args.breakpoints.now c.args.m) in
    let at_own : to_z w64 (of_z w64 c.at_zero-current.result) ≡ at_zero_in (c.draw.new.stretches) (c.args.first + c.stretch.result) = let e : to_z w64 (of_z w64 c.at_zero-current.result) ≡ c.at_zero-current.result = search rules in e ∙ c.at_zero-current.ensures in
    let n = breakpoints_to_lem c.args.slopes.now c.args.breakpoints.now c.args.m in
    lowered_fills _ _ c.args.m n _ (c.draw.new.stretches) c.args.first c.draw.ensures c.stretch.result _ found there (rw at_own at c.lower.ensures)
