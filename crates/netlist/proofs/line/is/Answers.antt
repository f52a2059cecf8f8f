use Rattle.netlist.specs.Line.{same}
use Rattle.netlist.proofs.LineLaws.{agree, same_self, same_is}
use Rattle.netlist.proofs.line.is.Goals as goal

pub returns : goal.returns
returns c =
    let a = c.args in
    agree c.same.result (same a.word.now a.name.now) (λ e. rw (c.same.ensures.0 e) (same_self a.name.now)) (λ e. c.same.ensures.1 (same_is a.word.now a.name.now e))
