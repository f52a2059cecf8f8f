use mathlib.Core.Path.{◌≡◌, sym, ◌∙◌}
use native.Mathlib.Omega.{arith}
use lib.ListN.{get_or-eq_default}
use borrow.Author.Rules.{rules}
use Rattle.units.proofs.Every.{every_none, every_more}
use Rattle.image.specs.Curve.{breakpoints_at, start_from}
use Rattle.image.proofs.Curves.{start_none, start_more, splits_fails, splits_ends}
use Rattle.image.proofs.curve.split.Goals as goal

pub loop-init : goal.loop-init
loop-init c = record { start = start_none _ _; sized = every_none _ }

pub returns-in_default : goal.returns-in_default
returns-in_default c =
    let s = c.args in
    let l = c.loop in
    let z : breakpoints_at s.image.now (start_from s.image.now s.first l.counter) ≡ 0 = get_or-eq_default s.image.now 0 (omega (arith, c.in_default.ensures.lookup)) in
    sym (splits_fails s.image.now s.first s.count s.end l.counter c.loop-test.true (rw z))

pub returns-then-not-curve_size_fits : goal.returns-then-not-curve_size_fits
returns-then-not-curve_size_fits c =
    let s = c.args in
    let l = c.loop in
    let m : breakpoints_at s.image.now l.at ≡ c.in-Some.m.now = search (rules, c.in-Some.ensures) in
    sym (splits_fails s.image.now s.first s.count s.end l.counter c.loop-test.true (rw (← l.invariant.start, m) (sym c.curve_size_fits.ensures ∙ c.if-not-curve_size_fits.true)))

pub loop-preserved : goal.loop-preserved
loop-preserved c =
    let s = c.args in
    let l = c.loop in
    let m : breakpoints_at s.image.now l.at ≡ c.in-Some.m.now = search (rules, c.in-Some.ensures) in
    record {
      start = rw (start_more, ← l.invariant.start, m) (omega (arith, c.curve_length-at.ensures));
      sized = every_more _ l.counter l.invariant.sized (rw (← l.invariant.start, m) (sym c.curve_size_fits.ensures ∙ c.if-not-curve_size_fits.false));
    }

pub returns : goal.returns
returns c =
    let s = c.args in
    let l = c.loop in
    let e : l.counter ≡ s.count = omega arith in
    rw (splits_ends s.image.now s.first s.count s.end (rw e at l.invariant.sized), ← e, l.invariant.start)
