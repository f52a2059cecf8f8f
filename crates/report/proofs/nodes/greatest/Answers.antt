use Rattle.report.proofs.NodeLaws.{greatest_of}
use Rattle.report.proofs.nodes.greatest.Goals as goal

pub returns : goal.returns
returns c =
    rw c.unwrap_or.ensures (greatest_of c.args.circuit.now.board c.args.circuit.now.stretches c.requires.limits c.least_bound.result c.least_bound.ensures)
