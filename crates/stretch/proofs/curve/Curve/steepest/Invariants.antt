use Rattle.std.proofs.Common.{◌≡◌, max, drop}
use Rattle.network.specs.Network.{greatest}
use Rattle.stretch.specs.Stretch.{slopes_in}
use Rattle.stretch.proofs.curve.Curve.steepest.Given as goal

abbrev pub invariant-loop-i : goal.invariant-loop-i
invariant-loop-i l =
    let slopes = slopes_in l.self.stretches.now l.self.first l.self.breakpoints in
    max l.most (greatest (drop l.i slopes)) ≡ greatest slopes
