use mathlib.Core.Path.{◌∙◌}
use Rattle.block.proofs.SampleLaws.{sampled_is}
use Rattle.block.proofs.run.next.Goals as goal

pub returns : goal.returns
returns c =
    let a = c.args in
    let b = c.begin in
    (sampled_is a.circuit.now.board a.circuit.now.stretches a.drives.now a.j b.new.volts a.x.now b.ensures.0 c.sample.ensures.outcome, c.sample.ensures.long ∙ b.ensures.1)
