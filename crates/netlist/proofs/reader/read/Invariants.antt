use Prim.Native.Nat.{◌≤◌}
use lib.ListN.{length}
use Rattle.std.specs.Slice.Iter.{split_inclusive_rest}
use Rattle.netlist.specs.Text.{longest_text}
use Rattle.netlist.proofs.TextLaws.{Reached}
use Rattle.netlist.proofs.reader.read.Given as goal

abbrev pub invariant-loop-piece : goal.invariant-loop-piece
invariant-loop-piece l = (length l.text ≤ longest_text) × Reached l.text l.n l.draft (split_inclusive_rest l.piece-iterator)
