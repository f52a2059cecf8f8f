-- The highest node named, with one element more. Assumes nothing.
use mathlib.Core.Path.{◌≡◌, refl}
use Prim.Native.Nat.{ℕ, ◌+◌, max}
use native.Mathlib.Numerals.{add-one}
use Rattle.image.specs.Parts.{element_of}
use Rattle.image.specs.declared.parts.Parts.{Parts}
use Rattle.parts.specs.Named.{highest_among}

module _ (parts : Parts) where
  pub highest_none : highest_among parts 0 ≡ parts.output
  unfolding highest_among
  highest_none = refl

  pub highest_more : (j : ℕ) → highest_among parts (j + 1) ≡ max (highest_among parts j) (max (element_of parts j).p (element_of parts j).q)
  unfolding highest_among
  highest_more j = rw (add-one j)
