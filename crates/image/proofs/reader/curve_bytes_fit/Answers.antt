use Rattle.image.specs.Format.{curve_bytes_fit, parts_of}
use Rattle.image.proofs.reader.curve_bytes_fit.Goals as goal

pub paddings_fit-requires : goal.paddings_fit-requires
unfolding parts_of
paddings_fit-requires c = let p = c.requires in rw p.is p.curves

pub returns : goal.returns
unfolding curve_bytes_fit parts_of
returns c = let p = c.requires in rw (c.paddings_fit.ensures, c.curves_fit.ensures, p.is)
