use mathlib.Core.Path.{ap}
use Rattle.std.proofs.Common.{Some}
use Rattle.netlist_main.specs.Asked.{asked_of}
use Rattle.netlist_main.proofs.asked.version.Goals as goal

pub returns-then-byte_at-n : goal.returns-then-byte_at-n
unfolding asked_of
returns-then-byte_at-n c =
    rw (← c.byte_at.ensures, ← c.past-end.ensures, c.if-byte_at-n.true) (ap Some c.byte.ensures)

pub returns : goal.returns
unfolding asked_of
returns c = rw (← c.byte_at.ensures, ← c.past-end.ensures, c.if-byte_at-n.false)
