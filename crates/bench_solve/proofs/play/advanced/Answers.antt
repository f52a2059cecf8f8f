use Rattle.solve.proofs.SampleLaws.{playable_after}
use Rattle.bench_solve.proofs.play.advanced.Goals as goal

pub returns : goal.returns
returns c = playable_after c.requires c.sample-number.ensures.outcome
