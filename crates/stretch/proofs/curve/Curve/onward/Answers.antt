use Rattle.std.proofs.Common.{◌≡◌, ◌-◌, ◌∙◌, arith, rules, w64, to_z, of_z, to_z-of_z}
use Rattle.stretch.specs.Stretch.{breakpoints_in}
use Rattle.stretch.proofs.CurveLaws.{breakpoints_in_lem, row_begins}
use Rattle.stretch.proofs.StretchLaws.{stretch_there}
use Rattle.stretch.proofs.Halving.{look_stops, look_passes}
use Rattle.stretch.proofs.curve.Curve.onward.Goals as goal

pub returns-then-v-breakpoint : goal.returns-then-v-breakpoint
returns-then-v-breakpoint c =
    let s = c.args.self.now in
    let l = c.loop-row in
    let bs = breakpoints_in s.stretches.now s.first s.breakpoints in
    let v = to_z-of_z c.ranges.v in
    let e : to_z w64 (of_z w64 c.breakpoint.result) ≡ c.breakpoint.result = search rules in
    let look = e ∙ c.breakpoint.ensures ∙ row_begins s.stretches.now s.first s.breakpoints l.row l.invariant.0 (omega arith) in
    let stops = look_stops bs c.args.v c.requires.1 (l.row - s.first) (rw (look, v) at c.if-v-breakpoint.true) in
    omega (arith, l.invariant.0, rw v at l.invariant.1, stops)

pub loop-row-preserved : goal.loop-row-preserved
loop-row-preserved c =
    let s = c.args.self.now in
    let l = c.loop-row in
    let bs = breakpoints_in s.stretches.now s.first s.breakpoints in
    let v = to_z-of_z c.ranges.v in
    let e : to_z w64 (of_z w64 c.breakpoint.result) ≡ c.breakpoint.result = search rules in
    let look = e ∙ c.breakpoint.ensures ∙ row_begins s.stretches.now s.first s.breakpoints l.row l.invariant.0 (omega arith) in
    let passes = look_passes bs c.args.v c.requires.1 (l.row - s.first) (omega (arith, l.invariant.0, breakpoints_in_lem s.stretches.now s.first s.breakpoints)) (rw (look, v) at c.if-v-breakpoint.false) in
    (omega (arith, l.invariant.0), rw v (omega (arith, l.invariant.0, passes)))

pub returns : goal.returns
returns c =
    let s = c.args.self.now in
    let l = c.loop-row in
    let bs = breakpoints_in s.stretches.now s.first s.breakpoints in
    omega (arith, l.invariant.0, rw (to_z-of_z c.ranges.v) at l.invariant.1, stretch_there bs c.args.v, breakpoints_in_lem s.stretches.now s.first s.breakpoints)
