use mathlib.Core.Path.{◌≡◌}
use Rattle.units.specs.Table.{overlaid, in_turn}
use Rattle.writing.proofs.Overlaying.{element_in}
use Rattle.writing.proofs.element.put_elements.Given as goal

-- `writing::element::put_elements` meets its contract. The elements that the loop has passed are laid over the buffer. Assumes nothing.
abbrev pub invariant-loop-j : goal.invariant-loop-j
invariant-loop-j l = l.buffer ≡ overlaid l.initial.buffer 0 (in_turn (element_in l.fn.parts.elements) l.j)
