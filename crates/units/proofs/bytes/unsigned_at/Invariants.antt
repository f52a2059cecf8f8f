use Rattle.std.proofs.Common.{◌+◌, ◌-◌}
use Rattle.units.specs.Bytes.{Spells}
use Rattle.units.proofs.bytes.unsigned_at.Given as goal

abbrev pub invariant-loop-i : goal.invariant-loop-i
invariant-loop-i g l = Spells (g.row.N - l.i) l.s (l.at + l.i) l.n
