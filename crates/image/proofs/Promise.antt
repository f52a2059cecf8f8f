-- The reader's promise admits one outcome, and what it says of an opened image, and of one that is refused. Assumes nothing.
use mathlib.Core.Path.{◌≡◌, sym, ◌∙◌, ap}
use mathlib.Core.List.{List}
use Prim.Native.Nat.{ℕ, ◌≤◌}
use native.Mathlib.Omega.{arith}
use Rattle.std.specs.Prelude.{Result, Ok, Err}
use Rattle.units.specs.Number.{number_of}
use Rattle.units.specs.declared.number.Number.{Number}
use Rattle.units.specs.declared.number.Number.TheVariants.{Done}
use Rattle.image.specs.Format.{Opening, opened, refused, parts_of, opening_of}
use Rattle.image.specs.Opened.{result_of, Read}
use Rattle.image.specs.Sound.{Sound}
use Rattle.image.specs.declared.parts.Parts.{Parts}
use Rattle.image.proofs.Opening.{opened_kept, opened_sound, refused_early}

-- the promise admits one outcome
pub read_once : (image : List ℕ) (r s : Result Parts Number) → Read image r → Read image s → r ≡ s
read_once image r s p q = p.opening ∙ sym q.opening

-- an opening goes by its result
result_opened : (o : Opening) (parts : Parts) → Ok parts ≡ result_of o → o ≡ opened parts
result_opened (opened q) parts e = cc
result_opened (refused n) parts e = cc

result_refused : (o : Opening) (n : Number) → Err n ≡ result_of o → o ≡ refused n
result_refused (opened q) n e = cc
result_refused (refused k) n e = cc

-- an image whose opening comes to parts is opened, as those that lie in it
pub number_opened : (image : List ℕ) (parts : Parts) → Ok parts ≡ result_of (opening_of image) → opening_of image ≡ opened (parts_of image)
number_opened image parts e = let o = result_opened (opening_of image) parts e in o ∙ ap opened (opened_kept image parts o).is

-- an image that is read as parts is opened as them, and they are sound
pub read_opening : (image : List ℕ) (parts : Parts) → Read image (Ok parts) → opening_of image ≡ opened parts
read_opening image parts p = result_opened (opening_of image) parts p.opening

pub read_sound : (image : List ℕ) (parts : Parts) → Read image (Ok parts) → Sound parts
read_sound image parts p = (opened_sound image parts (read_opening image parts p)).1

-- one that is not is refused by the number that is read, one of 1 to 5, and never the one of an image that is opened
pub read_refused : (image : List ℕ) (n : Number) → Read image (Err n) → opening_of image ≡ refused n
read_refused image n p = result_refused (opening_of image) n p.opening

pub read_early : (image : List ℕ) (n : Number) → Read image (Err n) → (1 ≤ number_of n) × (number_of n ≤ 5)
read_early image n p = refused_early image n (read_refused image n p)

pub read_never_done : (image : List ℕ) (n : Number) → Read image (Err n) → n ≡ Done → ⊥
read_never_done image n p e = omega (arith, read_early image n p, ap number_of e)
