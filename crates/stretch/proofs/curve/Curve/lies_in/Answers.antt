use Rattle.std.proofs.Common.{◌≡◌, ◌-◌, ◌∙◌, arith, rules, w64, to_z, of_z, to_z-of_z}
use Rattle.stretch.specs.Stretch.{breakpoints_in}
use Rattle.stretch.proofs.CurveLaws.{breakpoints_in_lem, row_begins}
use Rattle.stretch.proofs.StretchLaws.{stretch_there}
use Rattle.stretch.proofs.Halving.{look_stops}
use Rattle.stretch.proofs.curve.Curve.lies_in.Goals as goal

pub returns-then-row-self : goal.returns-then-row-self
returns-then-row-self c = λ h.
    let s = c.args.self.now in
    let reached = c.has_reached.ensures c.if-has_reached.true in
    omega (
      arith,
      rw (to_z-of_z c.ranges.v) at reached,
      c.if-row-self.true,
      stretch_there (breakpoints_in s.stretches.now s.first s.breakpoints) c.args.v,
      breakpoints_in_lem s.stretches.now s.first s.breakpoints,
    )

pub returns-else-row-self : goal.returns-else-row-self
returns-else-row-self c = λ h.
    let s = c.args.self.now in
    let row = c.args.row in
    let bs = breakpoints_in s.stretches.now s.first s.breakpoints in
    let e : to_z w64 (of_z w64 c.breakpoint.result) ≡ c.breakpoint.result = search rules in
    let look = e ∙ c.breakpoint.ensures ∙ row_begins s.stretches.now s.first s.breakpoints row (omega arith) (omega arith) in
    let reached = c.has_reached.ensures c.if-has_reached.true in
    let stops = look_stops bs c.args.v c.requires.1 (row - s.first) (rw (look, to_z-of_z c.ranges.v) at h) in
    omega (arith, rw (to_z-of_z c.ranges.v) at reached, stops)
