use Rattle.console.proofs.TextLaws.{puts_then}
use Rattle.report.proofs.parts.put_element.Goals as goal

pub returns : goal.returns
returns c =
    let letter = rw c.letter.ensures at c.put_word.ensures in
    puts_then letter (puts_then c.put_column.ensures (puts_then c.put_column-2.ensures c.put_law.ensures))
