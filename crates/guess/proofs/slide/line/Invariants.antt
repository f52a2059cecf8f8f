use Rattle.std.proofs.Common.{◌≤◌}
use Rattle.circuit.specs.Board.{start_on}
use Rattle.guess.proofs.slide.line.Given as goal

abbrev pub invariant-loop-k : goal.invariant-loop-k
invariant-loop-k l = start_on l.circuit.board l.node ≤ l.k
