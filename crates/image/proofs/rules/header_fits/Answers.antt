use mathlib.Core.Path.{refl}
use Rattle.image.specs.Parts.{header_fits}
use Rattle.image.proofs.rules.header_fits.Goals as goal

-- `image::rules::header_fits` meets its contract. By computation. Assumes nothing.
pub returns : goal.returns
unfolding header_fits
returns c = refl
