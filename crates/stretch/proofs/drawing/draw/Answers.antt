use mathlib.Core.Path.{◌≡◌, refl, sym, ◌∙◌, ap}
use Prim.Native.Nat.{◌≤◌, ◌<◌}
use native.Mathlib.Omega.{arith}
use lib.IntN.{pos}
use lib.ListN.{get_or-eq_default}
use mir.Syntax.{w32, w64}
use mir.Val.{to_z, of_z}
use borrow.Author.Rules.{rules}
use mir.Facts.{to_z-of_z}
use Rattle.std.proofs.lemmas.Int.{to_z_pos}
use Rattle.units.proofs.Sizes.{abs_add, fits_signed}
use Rattle.network.specs.Network.{reading}
use Rattle.stretch.specs.Stretch.{offset, slopes_to, breakpoints_to, drawn_number}
use Rattle.stretch.proofs.DrawingLaws.{few, slope_small_lem, breakpoint_small, slope_to, breakpoint_to, breakpoints_to_lem, offset_small, rows_none, rows_more}
use Rattle.stretch.proofs.drawing.draw.Goals as goal

pub loop-i-init : goal.loop-i-init
unfolding offset
loop-i-init c = (refl, rows_none _ _ _)

pub bounds-breakpoints-i : goal.bounds-breakpoints-i
bounds-breakpoints-i c =
    let room : (c.loop-i.i < c.args.m) × (c.args.m ≤ 16) = (c.loop-i-test.true, few _ _ _ c.requires.0) in
    omega (arith, room)

pub bounds-slopes-i : goal.bounds-slopes-i
bounds-slopes-i c =
    let room : (c.loop-i.i < c.args.m) × (c.args.m ≤ 16) = (c.loop-i-test.true, few _ _ _ c.requires.0) in
    omega (arith, room)

pub overflow_add-line : goal.overflow_add-line
overflow_add-line c =
    let n = c.loop-i in
    let ss = slopes_to c.args.slopes.now c.args.m in
    let bs = breakpoints_to c.args.breakpoints.now c.args.m in
    let e : to_z w64 (of_z w64 c.step-line.result) ≡ c.step-line.result = search rules in
    rw (e, n.invariant.0) (fits_signed _ (omega (arith, abs_add (offset ss bs n.i) c.step-line.result, offset_small ss bs c.requires.0 n.i, c.step-line.ensures.small, few _ _ _ c.requires.0)))

pub loop-i-preserved : goal.loop-i-preserved
unfolding drawn_number
loop-i-preserved c =
    let n = c.loop-i in
    let m = c.args.m in
    let z = reading c.args.breakpoints.now n.i in
    let f : to_z w32 (of_z w32 z) ≡ z = search rules in
    let wide = fits_signed z (omega (arith, breakpoint_small _ _ _ c.requires.0 n.i c.loop-i-test.true)) in
    let at-breakpoint : to_z w64 (of_z w64 (to_z w32 (of_z w32 z))) ≡ reading (breakpoints_to c.args.breakpoints.now m) n.i = rw (f, to_z-of_z wide) (sym (breakpoint_to c.args.slopes.now c.args.breakpoints.now m n.i c.loop-i-test.true)) in
    let at-slope = to_z_pos w64 _ (omega (arith, slope_small_lem _ _ _ c.requires.0 n.i (omega arith))) ∙ ap pos (sym (slope_to c.args.slopes.now c.args.breakpoints.now m n.i (omega arith))) in
    let e : to_z w64 (of_z w64 c.step-line.result) ≡ c.step-line.result = search rules in (
      to_z-of_z (overflow_add-line c) ∙ rw (e, n.invariant.0) (sym c.step-line.ensures.value),
      rw c.put.ensures (rows_more (drawn_number (slopes_to c.args.slopes.now m) (breakpoints_to c.args.breakpoints.now m)) _ _ n.i n.stretches _ _ _ (omega (arith, c.requires)) at-breakpoint at-slope n.invariant.0 n.invariant.1),
    )

pub bounds-slopes-m : goal.bounds-slopes-m
bounds-slopes-m c = omega (arith, few _ _ _ c.requires.0)

pub returns : goal.returns
unfolding drawn_number
returns c =
    let n = c.loop-i in
    let m = c.args.m in
    let bs = breakpoints_to_lem c.args.slopes.now c.args.breakpoints.now m in
    let e : n.i ≡ m = omega arith in
    let past : pos 0 ≡ reading (breakpoints_to c.args.breakpoints.now m) m = sym (get_or-eq_default (breakpoints_to c.args.breakpoints.now m) (pos 0) (omega (arith, bs))) in
    let at-slope = to_z_pos w64 _ (omega (arith, slope_small_lem _ _ _ c.requires.0 m (omega arith))) ∙ ap pos (sym (slope_to c.args.slopes.now c.args.breakpoints.now m m (omega arith))) in
    rw c.put-2.ensures (rows_more (drawn_number (slopes_to c.args.slopes.now m) (breakpoints_to c.args.breakpoints.now m)) c.args.stretches.now c.args.first m n.stretches _ _ _ (omega (arith, c.requires)) past at-slope (rw e at n.invariant.0) (rw e at n.invariant.1))
