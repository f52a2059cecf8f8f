use Rattle.std.proofs.Common.{◌≡◌, ◌/◌, ◌^◌}
use Rattle.units.specs.Bytes.{written}
use Rattle.units.proofs.bytes.put_unsigned.Given as goal

abbrev pub invariant-loop-i : goal.invariant-loop-i
invariant-loop-i g l = (l.s ≡ written l.i l.initial.s l.at l.v) × (l.left ≡ l.v / 256 ^ l.i)
