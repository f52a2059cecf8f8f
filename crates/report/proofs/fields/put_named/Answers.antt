use Rattle.console.proofs.TextLaws.{puts_then}
use Rattle.report.proofs.fields.put_named.Goals as goal

pub returns : goal.returns
returns c = puts_then c.put_word.ensures c.put_last.ensures
