use mathlib.Core.Path.{◌≡◌}
use Rattle.image.specs.Setting.{plain}
use Rattle.opening.specs.Opening.{board_to, stretches_of}
use Rattle.opening.proofs.numbers.fill.Given as goal

-- the board has the steepest sums of the first i nodes
abbrev pub invariant-loop-i : goal.invariant-loop-i
invariant-loop-i l = record { board : l.circuit.board ≡ board_to l.fn.parts plain l.i; stretches : l.circuit.stretches ≡ stretches_of l.fn.parts }
