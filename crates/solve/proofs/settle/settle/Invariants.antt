use Rattle.network.specs.Network.{reading}
use Rattle.network.specs.Search.{height}
use Rattle.circuit.specs.Board.{network_on}
use Rattle.solve.specs.Search.{Searching, Down}
use Rattle.solve.proofs.settle.settle.Given as goal

abbrev pub invariant-loop-sweeps : goal.invariant-loop-sweeps
invariant-loop-sweeps l = Searching l.circuit.board l.circuit.stretches l.stored l.at.volts l.at.nets × Down l.circuit.board l.circuit.stretches l.stored l.initial.at.volts l.at.volts

abbrev pub decreases-loop-sweeps : goal.decreases-loop-sweeps
decreases-loop-sweeps l = height (network_on l.circuit.board l.circuit.stretches) (reading l.at.volts)
