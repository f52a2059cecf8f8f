use Rattle.image.specs.Parts.{no_parts}
use Rattle.image.specs.Format.{header_at}
use Rattle.image.proofs.trailer.header_of.Goals as goal

pub returns : goal.returns
unfolding header_at no_parts
returns c = rw (c.unsigned_at.ensures.value, c.no_parts.ensures)
