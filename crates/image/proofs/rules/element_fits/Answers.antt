use Rattle.image.specs.Parts.{element_fits}
use Rattle.image.proofs.rules.element_fits.Goals as goal

pub returns-then-has_curve : goal.returns-then-has_curve
unfolding element_fits
returns-then-has_curve c = rw (← c.has_curve.ensures, c.if-has_curve.true) (rw c.kind_allowed.ensures)

pub returns : goal.returns
unfolding element_fits
returns c = rw (← c.has_curve.ensures, c.if-has_curve.false) (rw c.kind_allowed.ensures)
