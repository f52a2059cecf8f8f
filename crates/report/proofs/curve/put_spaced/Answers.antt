use mir.Facts.{to_z-of_z}
use Rattle.console.proofs.TextLaws.{puts_then}
use Rattle.report.proofs.curve.put_spaced.Goals as goal

pub returns : goal.returns
returns c = puts_then c.put_word.ensures (rw (to_z-of_z c.ranges.z) at c.put_number.ensures)
