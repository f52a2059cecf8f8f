-- A block of n + m samples, cut after n. Assumes nothing.
use Rattle.std.specs.Prelude.{◌≡◌, List, ◌++◌, ℕ, ◌+◌, ◌*◌, length}
use Rattle.image.specs.Format.{opening_of, opened}
use Rattle.image.specs.declared.parts.Parts.{Parts}
use Rattle.block.specs.Block.{LengthsFit}

-- the first part has the drives and the output places of n samples, and number 8 does not apply to the whole
pub record CutAt (driven n m : ℕ) (drives₁ drives₂ outputs₁ outputs₂ : List ℕ) : Type 0 where
  pub drives : length drives₁ ≡ 4 * (n * driven)
  pub outputs : length outputs₁ ≡ 4 * n
  pub fit : LengthsFit driven (n + m) (length (drives₁ ++ drives₂)) (length (outputs₁ ++ outputs₂))

-- for the driven nodes that an image has, if it is one
abbrev pub CutFor : List ℕ → (n m : ℕ) → (drives₁ drives₂ outputs₁ outputs₂ : List ℕ) → Type 0
CutFor image n m drives₁ drives₂ outputs₁ outputs₂ = (parts : Parts) → opening_of image ≡ opened parts → CutAt parts.driven n m drives₁ drives₂ outputs₁ outputs₂
