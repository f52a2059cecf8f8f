-- What is stored stays such as a sample can begin with.
use Rattle.solve.specs.Sample.{Playable}
use Rattle.bench_solve.proofs.play.samples.Given as goal

abbrev pub invariant-loop-k : goal.invariant-loop-k
invariant-loop-k l = Playable l.circuit.board l.circuit.stretches l.stored
