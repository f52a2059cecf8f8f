use Rattle.std.proofs.Common.{true, false, ℤ, ◌≡◌, ◌-◌, ◌∙◌, arith, rules, w64, to_z, of_z, to_z-of_z}
use Rattle.std.proofs.lemmas.Int.{ints}
use Rattle.std.specs.Int.Signed.{le_z, lt_z}
use Rattle.network.specs.Network.{reading}
use Rattle.stretch.specs.Stretch.{breakpoints_in}
use Rattle.stretch.proofs.CurveLaws.{breakpoints_in_lem, row_begins}
use Rattle.stretch.proofs.Halving.{look_passes}
use Rattle.stretch.proofs.curve.Curve.has_reached.Goals as goal

at_or_before : (b v : ℤ) → le_z b v ≡ true → lt_z v b ≡ false
at_or_before b v h = grind (arith, ints)

pub returns-else-row-self : goal.returns-else-row-self
returns-else-row-self c = λ h.
    let s = c.args.self.now in
    let row = c.args.row in
    let bs = breakpoints_in s.stretches.now s.first s.breakpoints in
    let e : to_z w64 (of_z w64 c.breakpoint.result) ≡ c.breakpoint.result = search rules in
    let look = e ∙ c.breakpoint.ensures ∙ row_begins s.stretches.now s.first s.breakpoints (row - 1) (omega arith) (omega arith) in
    let passes = look_passes bs c.args.v c.requires.1 (row - 1 - s.first) (omega (arith, breakpoints_in_lem s.stretches.now s.first s.breakpoints)) (at_or_before (reading bs (row - 1 - s.first)) c.args.v (rw (look, to_z-of_z c.ranges.v) at h)) in
    omega (arith, passes)
