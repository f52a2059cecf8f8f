use mir.Facts.{to_z-of_z}
use Rattle.console.specs.Text.{number}
use Rattle.console.proofs.TextLaws.{puts_then}
use Rattle.console.proofs.text.Text.put_number.Goals as goal

pub returns : goal.returns
unfolding number
returns c =
    let e = to_z-of_z c.ranges.z in
    let sign = rw e at c.put_sign.ensures in
    let size = rw e at c.unsigned_abs.ensures.value in
    puts_then sign (rw size at c.put_decimal.ensures)
