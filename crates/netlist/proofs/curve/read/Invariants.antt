use Prim.Native.Nat.{◌-◌}
use lib.ListN.{length}
use Rattle.netlist.proofs.KeptCurves.{Drawn}
use Rattle.netlist.proofs.curve.read.Given as goal

abbrev pub invariant-loop-slope : goal.invariant-loop-slope
invariant-loop-slope l = Drawn l.s l.from l.at l.curve

abbrev pub decreases-loop-slope : goal.decreases-loop-slope
decreases-loop-slope l = length l.s - l.at
