-- What an image is answered by, rules 1 to 6 of document 01, and what it is accepted as. Assumes nothing.
use Rattle.std.specs.Prelude.{◌≡◌, true, cond, List, ℕ}
use Rattle.units.specs.declared.number.Number.{Number}
use Rattle.units.specs.declared.number.Number.TheVariants.{Done, Conductance}
use Rattle.image.specs.Conductance.{conductances_fit}
use Rattle.image.specs.Format.{Opening, opened, refused, opening_of}
use Rattle.image.specs.Setting.{plain}
use Rattle.image.specs.declared.parts.Parts.{Parts}

-- the number that an image is answered by
abbrev pub number_for : Opening → Number
number_for (opened parts) = cond (conductances_fit parts plain) Done Conductance
number_for (refused n) = n

abbrev pub image_number : List ℕ → Number
image_number image = number_for (opening_of image)

-- 0: it is opened as these parts, and their conductances are within their limits
pub record Accepted (image : List ℕ) (parts : Parts) : Type 0 where
  pub opening : opening_of image ≡ opened parts
  pub conductances : conductances_fit parts plain ≡ true
