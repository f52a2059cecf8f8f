use mathlib.Core.Path.{◌≡◌, sym, ◌∙◌, ap}
use native.Mathlib.Omega.{arith}
use lib.ListN.{length}
use Rattle.units.proofs.Every.{every_none, every_more, every_fails}
use Rattle.image.specs.Curve.{breakpoints_at, curve_length, curve_bytes, padding_fits, start_from}
use Rattle.image.specs.Asked.{CurveThere}
use Rattle.image.proofs.Curves.{start_none, start_more, curve_length_lem}
use Rattle.image.proofs.curve.paddings_fit.Goals as goal

pub loop-init : goal.loop-init
loop-init c = record { start = start_none _ _; zero = every_none _ }

pub returns-then-not-padding_fits : goal.returns-then-not-padding_fits
returns-then-not-padding_fits c =
    let s : c.padding_fits.result ≡ padding_fits (curve_bytes c.args.image.now (start_from c.args.image.now c.args.first c.loop.counter)) = rw (← c.loop.invariant.start) (c.padding_fits.ensures ∙ ap padding_fits c.curve_at-bytes.ensures) in
    sym (every_fails _ _ c.loop.counter c.loop-test.true (sym s ∙ c.if-not-padding_fits.true))

pub loop-preserved : goal.loop-preserved
loop-preserved c =
    let l = c.loop in
    let s : c.padding_fits.result ≡ padding_fits (curve_bytes c.args.image.now (start_from c.args.image.now c.args.first l.counter)) = rw (← l.invariant.start) (c.padding_fits.ensures ∙ ap padding_fits c.curve_at-bytes.ensures) in
    let there : CurveThere c.args.image.now l.at = rw l.invariant.start (c.requires l.counter c.loop-test.true) in
    let long : length c.curve_at-bytes.result.now ≡ curve_length (breakpoints_at c.args.image.now l.at) = ap length c.curve_at-bytes.ensures ∙ curve_length_lem _ _ there in
    record {
      start = rw (start_more, ← l.invariant.start) (omega (arith, long));
      zero = every_more _ l.counter l.invariant.zero (sym s ∙ c.if-not-padding_fits.false);
    }
