use mathlib.Core.Path.{◌≡◌}
use Prim.Native.Nat.{◌*◌, ◌≤◌}
use lib.IntN.{pos}
use Rattle.units.specs.Table.{padded}
use Rattle.stretch.specs.Stretch.{stretches_size}
use Rattle.opening.specs.Opening.{table_number}
use Rattle.opening.proofs.table.stretches.Given as goal

abbrev pub invariant-loop-k : goal.invariant-loop-k
invariant-loop-k l = (l.k ≤ l.fn.parts.curve_count) × (l.table ≡ padded (pos 0) stretches_size (table_number l.fn.parts) (51 * l.k))
