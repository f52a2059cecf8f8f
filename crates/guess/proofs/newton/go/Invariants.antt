use Rattle.guess.specs.Proposal.{Standing}
use Rattle.guess.proofs.newton.go.Given as goal

abbrev pub invariant-loop-k : goal.invariant-loop-k
invariant-loop-k l = Standing l.circuit.board l.volts
