use Rattle.image.specs.Format.{parts_of}
use Rattle.image.proofs.reader.filled.Goals as goal

pub returns : goal.returns
unfolding parts_of
returns c =
    let p = c.requires in
    rw (c.curves_at.ensures, c.elements_at.ensures, p.is)
