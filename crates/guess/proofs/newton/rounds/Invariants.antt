use Rattle.guess.specs.Proposal.{Standing}
use Rattle.guess.proofs.newton.rounds.Given as goal

abbrev pub invariant-loop-round : goal.invariant-loop-round
invariant-loop-round l = Standing l.circuit.board l.volts
