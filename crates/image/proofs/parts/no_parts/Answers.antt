use Rattle.image.specs.Parts.{no_parts}
use Rattle.image.proofs.parts.no_parts.Goals as goal

pub returns : goal.returns
unfolding no_parts
returns c = rw (c.no_element-no_element.ensures, c.no_curve-no_curve.ensures)
