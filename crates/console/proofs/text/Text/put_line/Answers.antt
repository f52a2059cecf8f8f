use mir.Facts.{to_z-of_z}
use Rattle.console.specs.Text.{line}
use Rattle.console.proofs.TextLaws.{puts_then}
use Rattle.console.proofs.text.Text.put_line.Goals as goal

pub returns : goal.returns
unfolding line
returns c = puts_then (rw (to_z-of_z c.ranges.z) at c.put_number.ensures) c.put_word.ensures
