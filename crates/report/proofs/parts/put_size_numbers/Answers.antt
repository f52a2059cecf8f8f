use Rattle.console.proofs.TextLaws.{puts_then}
use Rattle.report.specs.Parts.{size_numbers}
use Rattle.report.proofs.parts.put_size_numbers.Goals as goal

pub returns : goal.returns
unfolding size_numbers
returns c = puts_then c.put_named.ensures (puts_then c.put_named-2.ensures c.put_named-3.ensures)
