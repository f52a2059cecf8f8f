use Rattle.solve.proofs.LeapLaws.{LandsTo}
use Rattle.solve.proofs.leap.land.Given as goal

abbrev pub invariant-loop-i : goal.invariant-loop-i
invariant-loop-i l = LandsTo l.circuit.board l.circuit.stretches l.stored l.volts l.initial.far.volts l.far.volts l.far.nets l.i
