use mathlib.Core.Path.{◌≡◌, refl, sym, ◌∙◌}
use native.Mathlib.Omega.{arith}
use lib.ListN.{length}
use mir.Syntax.{w64}
use mir.Val.{to_z, of_z}
use borrow.Author.Rules.{rules}
use Rattle.report.specs.Curve.{spaced}
use Rattle.report.proofs.TurnLaws.{turn_none, turn_more}
use Rattle.report.proofs.curve.put_all.Goals as goal

pub loop-number-init : goal.loop-number-init
loop-number-init g c = (omega arith, refl, λ z read. turn_none (λ j. spaced (z j)))

pub loop-number-preserved : goal.loop-number-preserved
loop-number-preserved g c =
    let l = c.loop-number in
    let p = c.put_spaced.ensures in
    let whole : to_z w64 (of_z w64 c.into.result) ≡ c.into.result = search rules in (
      omega (arith, l.invariant.0, p.adds.short, p.adds.moved),
      p.as_long ∙ l.invariant.1,
      λ z read.
          let same : c.into.result ≡ z l.number-index = read _ _ _ c.loop-number-test.true c.number-item.is c.into.ensures in
          turn_more (λ j. spaced (z j)) l.number-index (l.invariant.2 z read) (rw (whole, same) at p),
    )

pub returns-clause-within : goal.returns-clause-within
returns-clause-within g c = omega (arith, c.loop-number.invariant.0)

pub returns-clause-as_long : goal.returns-clause-as_long
returns-clause-as_long g c = c.loop-number.invariant.1

pub returns-clause-text : goal.returns-clause-text
returns-clause-text g c =
    let l = c.loop-number in
    λ z read.
    let all : l.number-index ≡ length c.args.numbers.now = omega arith in
    rw (sym all) (l.invariant.2 z read)
