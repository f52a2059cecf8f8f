-- The image, document 01: where a circuit's parts lie in bytes, the tests of that layout, and the opening, which is the parts or the
-- number of the first rule that fails. Every test is one of any bytes whatever: past the end they read as 0. Assumes nothing.
use Rattle.std.specs.Prelude.{Bool, ◌&&◌, cond, List, ℕ, ◌+◌, ◌*◌, ◌-◌, eqb, length, get_or, replicate}
use Rattle.units.specs.Bytes.{little_endian}
use Rattle.units.specs.Table.{padded, between, every}
use Rattle.units.specs.declared.number.Number.{Number}
use Rattle.units.specs.declared.number.Number.TheVariants as number
use Rattle.network.specs.Network.{branch_limit}
use Rattle.image.specs.Parts.{curve_limit, no_element, no_curve, header_fits, curve_sizes_fit, curves_fit, elements_fit}
use Rattle.image.specs.Curve.{curve_bytes, curve_in, padding_fits, start_from}
use Rattle.image.specs.declared.parts.Element.{Element}
use Rattle.image.specs.declared.parts.Parts.{Parts}
use Rattle.image.specs.declared.trailer.Trailer.{Trailer}

-- bytes of an element and of the trailer; bytes of an image
abbrev pub element_size : ℕ
element_size = 8

abbrev pub trailer_size : ℕ
trailer_size = 16

abbrev pub shortest : ℕ
shortest = 24

abbrev pub longest : ℕ
longest = 1360

-- ---- where things lie

-- the trailer's own fields: it is the last 16 bytes
unfoldable pub trailer_at : List ℕ → ℕ → Trailer
trailer_at image at = record { element_distance = little_endian 2 image at; curve_distance = little_endian 2 image (at + 2); size = little_endian 2 image (at + 14) }

abbrev pub trailer_of : List ℕ → Trailer
trailer_of image = trailer_at image (length image - trailer_size)

-- what it says of the parts, with no element and no curve yet
unfoldable pub header_at : List ℕ → ℕ → Parts
header_at image at = record {
  version = get_or image (at + 13) 0;
  nodes = get_or image (at + 6) 0;
  driven = get_or image (at + 7) 0;
  output = get_or image (at + 12) 0;
  rate = little_endian 4 image (at + 8);
  element_count = get_or image (at + 4) 0;
  elements = replicate branch_limit no_element;
  curve_count = get_or image (at + 5) 0;
  curves = replicate curve_limit no_curve;
}

abbrev pub header_of : List ℕ → Parts
header_of image = header_at image (length image - trailer_size)

-- element j: there are no gaps, so the first element is at the first byte
unfoldable pub element_at : List ℕ → ℕ → Element
element_at image j = record {
  kind = get_or image (element_size * j) 0;
  p = get_or image (element_size * j + 1) 0;
  q = get_or image (element_size * j + 2) 0;
  curve = get_or image (element_size * j + 3) 0;
  value = little_endian 4 image (element_size * j + 4);
}

-- curve k: the first curve follows on the last element
abbrev pub curve_start : List ℕ → ℕ → ℕ
curve_start image = start_from image (element_size * (header_of image).element_count)

abbrev pub curve_bytes_at : List ℕ → ℕ → List ℕ
curve_bytes_at image k = curve_bytes image (curve_start image k)

-- the parts
unfoldable pub parts_of : List ℕ → Parts
parts_of image =
    let h = header_of image in
    record {
      version = h.version;
      nodes = h.nodes;
      driven = h.driven;
      output = h.output;
      rate = h.rate;
      element_count = h.element_count;
      elements = padded no_element branch_limit (element_at image) h.element_count;
      curve_count = h.curve_count;
      curves = padded no_curve curve_limit (λ (k : ℕ). curve_in (curve_bytes_at image k)) h.curve_count;
    }

-- ---- the rules, with the tests of the layout

-- 1: the length
abbrev pub length_fits : ℕ → Bool
length_fits = between shortest longest

-- 2: the trailer's fields other than the distances
unfoldable pub trailer_fits : List ℕ → Bool
trailer_fits image = header_fits (parts_of image) && eqb (trailer_of image).size trailer_size

-- 3: both distances, and that the curves split the curve bytes exactly
unfoldable pub sizes_fit : List ℕ → Bool
sizes_fit image =
    let t = trailer_of image in
    let h = header_of image in
    let before = length image - trailer_size in
    eqb t.element_distance before
    && eqb (element_size * h.element_count + t.curve_distance) before
    && (curve_sizes_fit (parts_of image) && eqb (curve_start image h.curve_count) before)

-- 4: the curves' padding, slopes and breakpoints
unfoldable pub curve_bytes_fit : List ℕ → Bool
curve_bytes_fit image = every (λ (k : ℕ). padding_fits (curve_bytes_at image k)) (header_of image).curve_count && curves_fit (parts_of image)

-- ---- the opening

pub data Opening : Type 0 where
  opened : Parts → Opening
  refused : Number → Opening

-- the rest if the rule holds, and else its number
abbrev pub rule : Number → Bool → Opening → Opening
rule n holds rest = cond holds rest (refused n)

unfoldable pub opening_of : List ℕ → Opening
opening_of image =
    rule number.Length (length_fits (length image))
    (rule number.Trailer (trailer_fits image)
    (rule number.Sizes (sizes_fit image)
    (rule number.Curve (curve_bytes_fit image)
    (rule number.Element (elements_fit (parts_of image))
    (opened (parts_of image))))))
