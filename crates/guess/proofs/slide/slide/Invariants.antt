use Rattle.guess.specs.Proposal.{Standing}
use Rattle.guess.proofs.slide.slide.Given as goal

abbrev pub invariant-loop : goal.invariant-loop
invariant-loop l = Standing l.circuit.board l.volts
