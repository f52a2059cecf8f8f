use mathlib.Core.Path.{◌≡◌, ◌∙◌, ap}
use Prim.Native.Nat.{◌+◌, ◌≤◌, ◌<◌}
use native.Mathlib.Omega.{arith}
use lib.ListN.{length, get_or, length-take}
use Rattle.std.proofs.Common.{rules}
use Rattle.units.specs.Table.{overlaid, in_turn}
use Rattle.units.proofs.Tables.{overlaid-length}
use Rattle.network.specs.Network.{breakpoint_count_limit}
use Rattle.image.specs.Parts.{no_curve}
use Rattle.image.specs.Curve.{curve_length}
use Rattle.image.proofs.Places.{curve_there}
use Rattle.writing.specs.Image.{curve_bytes}
use Rattle.writing.proofs.Overlaying.{read_past, among, turn_none, turn_more, turn_start, turn_length, turns_within, curve_in, curves_there, curve_length_lem}
use Rattle.writing.proofs.curve.put_curves.Goals as goal

pub loop-c-init : goal.loop-c-init
loop-c-init c = record { stands = turn_start _ _; laid = turn_none _ _ _ }

pub put_curve-requires : goal.put_curve-requires
put_curve-requires c =
    let parts = c.args.parts in
    let l = c.loop-c in
    let k = l.c-index in
    let there : k < parts.curve_count = omega (arith, c.loop-c-test.true, length-take parts.curve_count parts.curves) in
    let item = among parts.curves parts.curve_count k no_curve read_past c.loop-c-test.true in
    let few : (get_or parts.curves k no_curve).count ≤ breakpoint_count_limit = rw (curve_there parts k there) at (c.requires.0.short k there) in
    let room : l.end + curve_length (get_or parts.curves k no_curve).count ≤ length c.args.buffer.now = omega (arith, l.invariant.stands, turns_within (curve_in parts.curves) k parts.curve_count there, ap length (curves_there parts), curve_length_lem (get_or parts.curves k no_curve), c.requires.1) in
    let same : length l.buffer ≡ length c.args.buffer.now = ap length l.invariant.laid ∙ overlaid-length _ _ _ in
    rw item (few, omega (arith, room, same))

pub overflow_add-end : goal.overflow_add-end
overflow_add-end c =
    let parts = c.args.parts in
    let l = c.loop-c in
    let k = l.c-index in
    let there : k < parts.curve_count = omega (arith, c.loop-c-test.true, length-take parts.curve_count parts.curves) in
    let item = among parts.curves parts.curve_count k no_curve read_past c.loop-c-test.true in
    let room : l.end + curve_length (get_or parts.curves k no_curve).count ≤ length c.args.buffer.now = omega (arith, l.invariant.stands, turns_within (curve_in parts.curves) k parts.curve_count there, ap length (curves_there parts), curve_length_lem (get_or parts.curves k no_curve), c.requires.1) in
    record { fits = omega (arith, c.curve_length-end.ensures.1, ap (λ x. curve_length x.count) item, room) }

pub loop-c-preserved : goal.loop-c-preserved
loop-c-preserved c =
    let parts = c.args.parts in
    let l = c.loop-c in
    let k = l.c-index in
    let read = ap curve_bytes (among parts.curves parts.curve_count k no_curve read_past c.loop-c-test.true) in
    record {
      stands = omega (arith, l.invariant.stands, c.curve_length-end.ensures.0 ∙ ap length read, turn_length (curve_in parts.curves) k);
      laid = turn_more (curve_in parts.curves) c.args.buffer.now c.args.at k l.invariant.laid c.put_curve.ensures l.invariant.stands read;
    }

pub returns : goal.returns
returns c =
    let l = c.loop-c in
    let parts = c.args.parts in
    let many : parts.curve_count ≤ length parts.curves = search rules in
    let e : l.c-index ≡ parts.curve_count = omega (arith, many, length-take parts.curve_count parts.curves, c.requires.0.few) in
    l.invariant.laid ∙ ap (overlaid _ _) (ap (in_turn _) e ∙ curves_there parts)
