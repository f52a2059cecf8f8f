use mathlib.Core.Path.{◌≡◌}
use Prim.Native.Nat.{◌*◌, ◌≤◌}
use lib.ListN.{length}
use Rattle.units.specs.Table.{in_turn}
use Rattle.writing.proofs.Overlaying.{curve_in}
use Rattle.writing.proofs.curve.curves_length.Given as goal

-- `writing::curve::curves_length` meets its contract. The total is the length of the curves that the loop has passed. Assumes nothing.
abbrev pub invariant-loop-c : goal.invariant-loop-c
invariant-loop-c l = record {
  long : l.total ≡ length (in_turn (curve_in l.fn.parts.curves) l.c-index);
  small : l.total ≤ 136 * l.c-index;
}
