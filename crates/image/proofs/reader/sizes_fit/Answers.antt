use Rattle.image.specs.Format.{sizes_fit}
use Rattle.image.proofs.Curves.{splits_is}
use Rattle.image.proofs.reader.sizes_fit.Goals as goal

pub returns : goal.returns
unfolding sizes_fit
returns c =
    let p = c.requires in
    rw (c.split.ensures, c.trailer_of-t.ensures.0, p.is) (rw (splits_is c.args.image.now (rw p.is at p.few_curves)))
