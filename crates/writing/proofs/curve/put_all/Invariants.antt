use mathlib.Core.Path.{◌≡◌}
use Rattle.units.specs.Table.{overlaid, in_turn}
use Rattle.writing.specs.Image.{slope_bytes}
use Rattle.writing.proofs.curve.put_all.Given as goal

-- `writing::curve::put_all` meets its contract. The numbers that the loop has passed are laid over the buffer. Assumes nothing.
abbrev pub invariant-loop-j : goal.invariant-loop-j
invariant-loop-j l = l.buffer ≡ overlaid l.initial.buffer l.at (in_turn (slope_bytes l.numbers) l.j)
