use Rattle.solve.specs.Search.{Searching}
use Rattle.solve.proofs.VisitLaws.{LapTo}
use Rattle.solve.proofs.certify.visit_all.Given as goal

abbrev pub invariant-loop-i : goal.invariant-loop-i
invariant-loop-i l = Searching l.circuit.board l.circuit.stretches l.stored l.up.volts l.up.nets × LapTo l.circuit.board l.circuit.stretches l.stored l.volts l.initial.up.volts l.up.volts l.went l.wait l.i
