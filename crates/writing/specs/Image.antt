-- The image of a circuit's parts: its bytes, in the order in which document 01 has them. Any parts have one, in as many bytes as their counts
-- say; places past the counts, and slopes and breakpoints past a curve's own, are not looked at. Assumes nothing.
use Rattle.std.specs.Prelude.{List, [], ◌∷◌, ◌++◌, ℕ, zero, suc, ◌+◌, ◌/◌, ◌%◌, ℤ, length, get_or}
use Rattle.std.specs.Int.{w32}
use Rattle.std.proofs.Common.{of_z}
use Rattle.units.specs.Table.{in_turn}
use Rattle.network.specs.Network.{reading}
use Rattle.image.specs.Parts.{element_of, curve_of}
use Rattle.image.specs.Format.{trailer_size}
use Rattle.image.specs.declared.parts.Curve.{Curve}
use Rattle.image.specs.declared.parts.Element.{Element}
use Rattle.image.specs.declared.parts.Parts.{Parts}

-- the n lowest bytes of a number, the lowest first
unfoldable pub bytes_of : ℕ → ℕ → List ℕ
bytes_of zero v = []
bytes_of (suc n) v = v % 256 ∷ bytes_of n (v / 256)

-- an element: its kind, its ends and its curve in a byte each, and its value
unfoldable pub element_bytes : Element → List ℕ
element_bytes e = e.kind ∷ e.p ∷ e.q ∷ e.curve ∷ bytes_of 4 e.value

-- slope j and breakpoint j of a curve
abbrev pub slope_bytes : List ℕ → ℕ → List ℕ
slope_bytes slopes j = bytes_of 4 (get_or slopes j 0)

abbrev pub breakpoint_bytes : List ℤ → ℕ → List ℕ
breakpoint_bytes breakpoints j = bytes_of 4 (of_z w32 (reading breakpoints j))

-- a curve: how many breakpoints it has, three bytes of padding, one slope more than that, and the breakpoints
unfoldable pub curve_bytes : Curve → List ℕ
curve_bytes c = c.count ∷ 0 ∷ 0 ∷ 0 ∷ (in_turn (slope_bytes c.slopes) (c.count + 1) ++ in_turn (breakpoint_bytes c.breakpoints) c.count)

-- the trailer, given its distances back to the first element and to the first curve
unfoldable pub trailer_bytes : (elements curves : ℕ) → Parts → List ℕ
trailer_bytes elements curves parts =
    bytes_of 2 elements
    ++ (bytes_of 2 curves
    ++ (parts.element_count ∷ parts.curve_count ∷ parts.nodes ∷ parts.driven ∷ (bytes_of 4 parts.rate ++ (parts.output ∷ parts.version ∷ bytes_of 2 trailer_size))))

-- the elements in order, then the curves in order, then the trailer
abbrev pub elements_bytes : Parts → List ℕ
elements_bytes parts = in_turn (λ (j : ℕ). element_bytes (element_of parts j)) parts.element_count

abbrev pub curves_bytes : Parts → List ℕ
curves_bytes parts = in_turn (λ (k : ℕ). curve_bytes (curve_of parts k)) parts.curve_count

unfoldable pub image_of : Parts → List ℕ
image_of parts =
    let curves = length (curves_bytes parts) in
    elements_bytes parts ++ (curves_bytes parts ++ trailer_bytes (length (elements_bytes parts) + curves) curves parts)
