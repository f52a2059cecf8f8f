use Rattle.stretch.specs.Stretch.{Lowered}
use Rattle.stretch.proofs.drawing.lower.Given as goal

abbrev pub invariant-loop-i : goal.invariant-loop-i
invariant-loop-i l = Lowered l.initial.stretches l.first l.i l.current l.stretches
