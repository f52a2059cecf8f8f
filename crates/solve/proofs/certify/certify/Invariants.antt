use Rattle.network.specs.Network.{reading}
use Rattle.network.specs.Search.{height}
use Rattle.circuit.specs.Board.{network_on}
use Rattle.solve.specs.Visit.{Visiting}
use Rattle.solve.proofs.certify.certify.Given as goal

abbrev pub invariant-loop : goal.invariant-loop
invariant-loop l = Visiting l.circuit.board l.circuit.stretches l.stored l.volts l.up.volts l.up.nets

abbrev pub decreases-loop : goal.decreases-loop
decreases-loop l = height (network_on l.circuit.board l.circuit.stretches) (reading l.up.volts)
