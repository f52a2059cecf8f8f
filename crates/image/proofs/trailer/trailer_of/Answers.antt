use Rattle.image.specs.Format.{trailer_at}
use Rattle.image.proofs.trailer.trailer_of.Goals as goal

pub returns : goal.returns
unfolding trailer_at
returns c = (rw (c.short.ensures.value, c.short-2.ensures.value, c.short-3.ensures.value), c.short-2.ensures.small)
