-- Element j and curve k of a circuit's parts, below the counts. Assumes nothing.
use mathlib.Core.Path.{◌≡◌}
use Prim.Native.Nat.{ℕ, ◌<◌}
use lib.ListN.{get_or}
use borrow.Author.Tests.{lt-ltb}
use Rattle.image.specs.Parts.{no_element, no_curve, element_of, curve_of}
use Rattle.image.specs.declared.parts.Parts.{Parts}

-- element j and curve k are those of the arrays below the counts, and none past them
module _ (parts : Parts) where
  pub element_there : (j : ℕ) → j < parts.element_count → element_of parts j ≡ get_or parts.elements j no_element
  unfolding element_of
  element_there j h = rw (lt-ltb j parts.element_count h)

  pub curve_there : (k : ℕ) → k < parts.curve_count → curve_of parts k ≡ get_or parts.curves k no_curve
  unfolding curve_of
  curve_there k h = rw (lt-ltb k parts.curve_count h)
