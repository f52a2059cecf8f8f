use Rattle.console.proofs.TextLaws.{puts_then}
use Rattle.report.specs.Parts.{node_numbers}
use Rattle.report.proofs.parts.put_node_numbers.Goals as goal

pub returns : goal.returns
unfolding node_numbers
returns c = puts_then c.put_named.ensures (puts_then c.put_named-2.ensures (puts_then c.put_named-3.ensures c.put_named-4.ensures))
