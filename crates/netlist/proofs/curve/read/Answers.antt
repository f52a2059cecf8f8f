use mathlib.Core.Path.{◌≡◌, sym, ◌∙◌}
use mathlib.Core.Bool.{true}
use native.Mathlib.Omega.{arith}
use mir.Syntax.{w32}
use mir.Val.{to_z, of_z}
use Rattle.netlist.specs.Curve.{stretch_stands}
use Rattle.netlist.proofs.PlaceLaws.{stretched, drawing_broken}
use Rattle.netlist.proofs.KeptCurves.{drawn_first, drawn_more, drawn_last}
use borrow.Author.Rules.{rules}
use Rattle.netlist.proofs.curve.read.Goals as goal

pub loop-slope-init : goal.loop-slope-init
loop-slope-init c = rw c.no_curve-curve.ensures (drawn_first _ _)

pub loop-slope-smaller : goal.loop-slope-smaller
loop-slope-smaller c =
    let goes_on : stretch_stands c.args.s.now c.loop-slope.at ≡ true = sym c.stretch_stands.ensures ∙ c.loop-slope-test.true in
    let go = stretched c.args.s.now c.loop-slope.at goes_on in
    omega (arith, c.after_stretch-at.ensures, go.onward, go.within)

pub loop-slope-preserved : goal.loop-slope-preserved
loop-slope-preserved c =
    let goes_on : stretch_stands c.args.s.now c.loop-slope.at ≡ true = sym c.stretch_stands.ensures ∙ c.loop-slope-test.true in
    let e : to_z w32 (of_z w32 c.breakpoint_at-breakpoint.result) ≡ c.breakpoint_at-breakpoint.result = search rules in
    rw (c.after_stretch-at.ensures, c.with_stretch-curve.ensures, e, c.breakpoint_at-breakpoint.ensures, c.next.ensures, c.word-slope.ensures)
    (drawn_more _ _ _ _ c.loop-slope.invariant goes_on)

pub returns-then-not-ends : goal.returns-then-not-ends
returns-then-not-ends c =
    let l = c.loop-slope in
    let s = c.args.s.now in
    λ y says. drawing_broken s c.args.from l.at l.invariant.whole l.invariant.drawing (sym c.stretch_stands.ensures ∙ c.loop-slope-test.false) (sym c.ends.ensures ∙ c.if-not-ends.true) says.numbers

pub returns : goal.returns
returns c =
    let l = c.loop-slope in
    rw (c.with_slope.ensures, c.word.ensures)
    (drawn_last _ _ _ _ l.invariant (sym c.ends.ensures ∙ c.if-not-ends.false))
