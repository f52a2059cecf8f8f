use Rattle.solve.proofs.SweepLaws.{Swept}
use Rattle.solve.proofs.settle.sweep.Given as goal

abbrev pub invariant-loop-i : goal.invariant-loop-i
invariant-loop-i l = Swept l.circuit.board l.circuit.stretches l.stored l.initial.at.volts l.at.volts l.at.nets l.moved l.i
