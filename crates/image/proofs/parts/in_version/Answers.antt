use mathlib.Core.Path.{refl}
use Rattle.image.specs.Parts.{in_version}
use Rattle.image.proofs.parts.in_version.Goals as goal

-- `image::parts::in_version` meets its contract. One field is set. Assumes nothing.
pub returns : goal.returns
unfolding in_version
returns c = refl
