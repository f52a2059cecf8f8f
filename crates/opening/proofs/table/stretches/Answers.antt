use mathlib.Core.Path.{◌≡◌, sym, ◌∙◌, ap}
use mathlib.Core.List.{[]}
use Prim.Native.Nat.{◌*◌, ◌≤◌, ◌<◌}
use native.Mathlib.Omega.{arith}
use lib.IntN.{pos}
use lib.ListN.{length, get_or}
use Rattle.units.proofs.Tables.{get_d_any, padded_none, padded_length}
use Rattle.image.specs.Parts.{no_curve, curve_of}
use Rattle.image.proofs.Places.{curve_there}
use Rattle.stretch.specs.Stretch.{stretches_size}
use Rattle.opening.specs.Opening.{table_number}
use Rattle.opening.proofs.TableIs.{slopes_same, breakpoints_same, breakpoints_long, table_more, table_all}
use Rattle.opening.proofs.table.stretches.Goals as goal

pub loop-k-init : goal.loop-k-init
loop-k-init c = (omega arith, c.requires.1 ∙ padded_none (pos 0) stretches_size (table_number c.args.parts))

pub fill-requires : goal.fill-requires
fill-requires c =
    let few : (c.loop-k.k < 8) × ((curve_of c.args.parts c.loop-k.k).count ≤ 16) = let k = c.loop-k.k in (omega (arith, c.requires.0.few_curves, c.loop-k-test.true), omega (arith, (c.requires.0.curves k c.loop-k-test.true).few, breakpoints_long (curve_of c.args.parts k))) in
    let the-curve : get_or c.known-curves.result c.loop-k.k (record { count = 0; slopes = []; breakpoints = [] }) ≡ curve_of c.args.parts c.loop-k.k = let k = c.loop-k.k in let a = c.known-curves.ensures in let few : k < 8 = omega (arith, c.requires.0.few_curves, c.loop-k-test.true) in rw a.0 (get_d_any c.args.parts.curves k _ no_curve (omega (arith, a.1)) ∙ sym (curve_there c.args.parts k c.loop-k-test.true)) in
    let k = c.loop-k.k in
    let cv = curve_of c.args.parts k in
    rw (the-curve, slopes_same cv, breakpoints_same cv) (c.requires.0.curves k c.loop-k-test.true, omega (arith, few), ap length c.loop-k.invariant.1 ∙ padded_length (pos 0) stretches_size (table_number c.args.parts) (51 * k))

pub loop-k-preserved : goal.loop-k-preserved
loop-k-preserved c =
    let few : (c.loop-k.k < 8) × ((curve_of c.args.parts c.loop-k.k).count ≤ 16) = let k = c.loop-k.k in (omega (arith, c.requires.0.few_curves, c.loop-k-test.true), omega (arith, (c.requires.0.curves k c.loop-k-test.true).few, breakpoints_long (curve_of c.args.parts k))) in
    let the-curve : get_or c.known-curves.result c.loop-k.k (record { count = 0; slopes = []; breakpoints = [] }) ≡ curve_of c.args.parts c.loop-k.k = let k = c.loop-k.k in let a = c.known-curves.ensures in let few : k < 8 = omega (arith, c.requires.0.few_curves, c.loop-k-test.true) in rw a.0 (get_d_any c.args.parts.curves k _ no_curve (omega (arith, a.1)) ∙ sym (curve_there c.args.parts k c.loop-k-test.true)) in
    let k = c.loop-k.k in
    let cv = curve_of c.args.parts k in
    (omega (arith, c.loop-k-test.true), table_more c.args.parts k c.loop-k.table _ few.0 few.1 c.loop-k.invariant.1 (rw (the-curve, slopes_same cv, breakpoints_same cv) at c.fill.ensures))

pub returns : goal.returns
returns c =
    let l = c.loop-k in
    let e : l.k ≡ c.args.parts.curve_count = omega (arith, l.invariant.0, c.loop-k-test.false) in
    l.invariant.1 ∙ table_all c.args.parts l.k e (omega (arith, c.requires.0.few_curves))
