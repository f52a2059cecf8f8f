-- The highest node that a netlist names: its elements and its output name nodes, and its drives name none. Assumes nothing.
use Rattle.std.specs.Prelude.{ℕ, zero, suc, max}
use Rattle.image.specs.Parts.{element_of}
use Rattle.image.specs.declared.parts.Parts.{Parts}

-- the highest that the output or one of the first n elements names
unfoldable pub highest_among : Parts → ℕ → ℕ
highest_among parts zero = parts.output
highest_among parts (suc n) = max (highest_among parts n) (max (element_of parts n).p (element_of parts n).q)

-- the highest of all
abbrev pub highest_named : Parts → ℕ
highest_named parts = highest_among parts parts.element_count
