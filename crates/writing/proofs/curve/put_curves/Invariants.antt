use mathlib.Core.Path.{◌≡◌}
use Prim.Native.Nat.{◌+◌}
use lib.ListN.{length}
use Rattle.units.specs.Table.{overlaid, in_turn}
use Rattle.writing.proofs.Overlaying.{curve_in}
use Rattle.writing.proofs.curve.put_curves.Given as goal

-- `writing::curve::put_curves` meets its contract. The curves that the loop has passed are laid over the buffer, and it stands at their end. Assumes nothing.
abbrev pub invariant-loop-c : goal.invariant-loop-c
invariant-loop-c l = record {
  stands : l.end ≡ l.at + length (in_turn (curve_in l.fn.parts.curves) l.c-index);
  laid : l.buffer ≡ overlaid l.initial.buffer l.at (in_turn (curve_in l.fn.parts.curves) l.c-index);
}
