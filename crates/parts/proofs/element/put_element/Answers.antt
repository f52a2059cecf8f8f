use Rattle.console.proofs.TextLaws.{puts_then}
use Rattle.parts.proofs.element.put_element.Goals as goal

pub returns : goal.returns
returns c =
    let letter = rw c.letter.ensures at c.put_word.ensures in
    let last = rw c.last_number.ensures at c.put_last.ensures in
    puts_then letter (puts_then c.put_column.ensures (puts_then c.put_column-2.ensures (puts_then c.put_column-3.ensures last)))
