-- What the reader hands back for an image. Assumes nothing.
use Rattle.std.specs.Prelude.{◌≡◌, List, ℕ, Result, Ok, Err}
use Rattle.units.specs.declared.number.Number.{Number}
use Rattle.image.specs.Parts.{no_parts}
use Rattle.image.specs.Format.{Opening, opened, refused, opening_of}
use Rattle.image.specs.declared.parts.Parts.{Parts}

-- the parts of an opening: zeros where it is a refusal
abbrev pub parts_in : Opening → Parts
parts_in (opened parts) = parts
parts_in (refused n) = no_parts

-- an opening as a result: its parts, or the number that refuses it
abbrev pub result_of : Opening → Result Parts Number
result_of (opened parts) = Ok parts
result_of (refused n) = Err n

-- the reader's promise: the result is that of the image's opening
pub record Read (image : List ℕ) (r : Result Parts Number) : Type 0 where
  pub opening : r ≡ result_of (opening_of image)
