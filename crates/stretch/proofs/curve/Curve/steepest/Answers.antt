use Rattle.std.proofs.Common.{◌≡◌, suc, ◌+◌, arith}
use Rattle.stretch.proofs.CurveLaws.{greatest_none, greatest_more}
use Rattle.stretch.proofs.curve.Curve.steepest.Goals as goal

pub loop-i-preserved : goal.loop-i-preserved
loop-i-preserved c =
    let s = c.args.self.now in
    let i = c.loop-i.i in
    let more = greatest_more s.stretches.now s.first s.breakpoints i (omega arith) in
    let next : suc i ≡ i + 1 = omega arith in
    omega (arith, c.loop-i.invariant, c.slope.ensures, c.max-most.ensures, rw next at more)

pub returns : goal.returns
returns c =
    let s = c.args.self.now in
    omega (arith, c.loop-i.invariant, greatest_none s.stretches.now s.first s.breakpoints c.loop-i.i (omega arith))
