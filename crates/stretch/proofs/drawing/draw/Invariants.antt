use mathlib.Core.Path.{◌≡◌}
use Rattle.stretch.specs.Stretch.{offset, slopes_to, breakpoints_to, Drawn}
use Rattle.stretch.proofs.drawing.draw.Given as goal

abbrev pub invariant-loop-i : goal.invariant-loop-i
invariant-loop-i l = (l.line ≡ offset (slopes_to l.slopes l.m) (breakpoints_to l.breakpoints l.m) l.i) × Drawn (slopes_to l.slopes l.m) (breakpoints_to l.breakpoints l.m) l.initial.stretches l.first l.i l.stretches
