use Prim.Native.Nat.{◌≤◌}
use Rattle.block.specs.Drives.{Placed}
use Rattle.block.proofs.drives.place.Given as goal

abbrev pub invariant-loop-i : goal.invariant-loop-i
invariant-loop-i l = (l.i ≤ l.driven) × Placed l.drives l.driven l.j l.i l.initial.volts l.volts
