use Rattle.std.proofs.Common.{pos, ◌+◌, rules}
use borrow.Author.Tests.{tests}
use Rattle.units.proofs.Tables.{padded_from_fn}
use Rattle.image.specs.Curve.{slope_of, breakpoint_of, curve_in}
use Rattle.image.proofs.curve.curve_in.Goals as goal

pub returns : goal.returns
unfolding curve_in
returns c =
    let bytes = c.args.bytes.now in
    let m = c.breakpoint_count-m.result in
    let slopes = padded_from_fn _ 0 17 (slope_of bytes) (m + 1) _ _ c.from_fn.ensures.items (λ i y q h k. search (rules, tests)) in
    let breakpoints = padded_from_fn _ (pos 0) 16 (breakpoint_of bytes) m _ _ c.from_fn-2.ensures.items (λ i y q h k. search (rules, tests)) in
    rw (slopes, breakpoints, c.breakpoint_count-m.ensures.0)
