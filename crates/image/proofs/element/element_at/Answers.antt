use Rattle.image.specs.Format.{element_at}
use Rattle.image.proofs.element.element_at.Goals as goal

pub returns : goal.returns
unfolding element_at
returns c = rw c.unsigned_at.ensures.value
