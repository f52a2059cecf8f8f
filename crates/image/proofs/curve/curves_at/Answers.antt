use mathlib.Core.Path.{◌≡◌, ◌∙◌, ap}
use native.Mathlib.Omega.{arith}
use lib.ListN.{length}
use Rattle.units.proofs.Tables.{padded_none, padded_more}
use Rattle.image.specs.Parts.{no_curve}
use Rattle.image.specs.Curve.{breakpoints_at, curve_length, curve_bytes, curve_in}
use Rattle.image.specs.Asked.{CurveThere}
use Rattle.image.proofs.Curves.{start_none, start_more, curve_length_lem}
use Rattle.image.proofs.curve.curves_at.Goals as goal

pub loop-k-init : goal.loop-k-init
loop-k-init c = record { start = start_none _ _; filled = rw c.no_curve-none.ensures (padded_none no_curve 8 _) }

pub loop-k-preserved : goal.loop-k-preserved
loop-k-preserved c =
    let l = c.loop-k in
    let there : CurveThere c.args.image.now l.at = rw l.invariant.start (c.requires.1 l.k c.loop-k-test.true) in
    let long : length c.curve_at-bytes.result.now ≡ curve_length (breakpoints_at c.args.image.now l.at) = ap length c.curve_at-bytes.ensures ∙ curve_length_lem _ _ there in
    let bytes = curve_bytes c.args.image.now in
    record {
      start = rw (start_more, ← l.invariant.start) (omega (arith, long));
      filled = rw l.invariant.filled (padded_more no_curve 8 _ l.k _ (omega arith) (c.curve_in.ensures ∙ ap curve_in (c.curve_at-bytes.ensures ∙ ap bytes l.invariant.start)));
    }
