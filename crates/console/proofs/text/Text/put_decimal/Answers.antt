use mathlib.Core.Path.{◌∙◌}
use native.Mathlib.Omega.{arith}
use Rattle.console.proofs.TextLaws.{puts_within, decimal_is, few_digits}
use Rattle.console.proofs.text.Text.put_decimal.Goals as goal

pub returns : goal.returns
returns c =
    let d = c.decimal-k in
    let spelt = rw (d.ensures.digits ∙ decimal_is d.ensures.len) at c.put_word.ensures in
    puts_within (omega (arith, few_digits d.ensures.len c.ranges.n.fits)) spelt
