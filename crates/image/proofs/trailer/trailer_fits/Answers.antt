use Rattle.image.proofs.Opening.{trailer_is}
use Rattle.image.proofs.trailer.trailer_fits.Goals as goal

pub returns : goal.returns
returns c = rw (c.header_fits.ensures, c.requires.1, c.trailer_of.ensures.0) (trailer_is c.args.image.now)
