-- An element and the trailer in the image: from what stands there to what is read, and back. Assumes nothing.
use mathlib.Core.Path.{◌≡◌, refl, sym}
use mathlib.Core.List.{List, ◌∷◌, ◌++◌}
use Prim.Native.Nat.{ℕ, suc, ◌+◌, ◌*◌, ◌^◌, ◌<◌}
use native.Mathlib.Omega.{arith}
use lib.ListN.{get_or}
use Rattle.units.specs.Bytes.{little_endian}
use Rattle.image.specs.Format.{element_size, trailer_size, trailer_at, header_at, element_at}
use Rattle.image.specs.declared.parts.Element.{Element}
use Rattle.image.specs.declared.parts.Parts.{Parts}
use Rattle.writing.specs.Image.{bytes_of, element_bytes, trailer_bytes}
use Rattle.writing.specs.Reached.{ElementInWidths}
use Rattle.writing.proofs.Stands.{Stands, more, stands_first, stands_second, stands_both, stands_number, number_stands}
use Rattle.writing.proofs.Overlaying.{bytes_length}

-- a byte, and a number, that are read in front of what stands
module _ (s : List ℕ) where
  byte_on : {v : ℕ} {b : List ℕ} (i : ℕ) {j : ℕ} → suc i ≡ j → get_or s i 0 ≡ v → Stands s j b → Stands s i (v ∷ b)
  byte_on {b = b} i e q rest = more {b = b} q (rw e rest)

  number_on : {b : List ℕ} (n i : ℕ) {j v : ℕ} → ((i : ℕ) → get_or s i 0 < 256) → i + n ≡ j → little_endian n s i ≡ v → Stands s j b → Stands s i (bytes_of n v ++ b)
  number_on {b = b} n i {v = v} bytes e q rest = stands_both (bytes_of n v) b (rw (sym q) (number_stands n i bytes)) (rw (bytes_length n v, e) rest)

-- ---- an element

module _ (s : List ℕ) (j : ℕ) where
  pub element_read : (e : Element) → ElementInWidths e → Stands s (element_size * j) (element_bytes e) → element_at s j ≡ e
  unfolding element_at element_bytes
  element_read e small (more a (more b (more c (more d rest)))) =
      let at = element_size * j in
      let p : at + 1 ≡ suc at = omega arith in
      let q : at + 2 ≡ suc (suc at) = omega arith in
      let r : at + 3 ≡ suc (suc (suc at)) = omega arith in
      let t : at + 4 ≡ suc (suc (suc (suc at))) = omega arith in
      rw (p, q, r, t, a, b, c, d, stands_number 4 e.value small.value rest)

  pub element_stands : ((i : ℕ) → get_or s i 0 < 256) → Stands s (element_size * j) (element_bytes (element_at s j))
  unfolding element_at element_bytes
  element_stands bytes =
      let at = element_size * j in
      byte_on s at (omega arith) refl (byte_on s (at + 1) (omega arith) refl (byte_on s (at + 2) (omega arith) refl (byte_on s (at + 3) (omega arith) refl (number_stands 4 (at + 4) bytes))))

-- ---- the trailer, field by field

module _ {s : List ℕ} where
  byte_here : {at v : ℕ} {b : List ℕ} → Stands s at (v ∷ b) → get_or s at 0 ≡ v
  byte_here (more e rest) = e

  past_byte : {at v : ℕ} {b : List ℕ} (to : ℕ) → suc at ≡ to → Stands s at (v ∷ b) → Stands s to b
  past_byte to e (more q rest) = rw e at rest

  number_here : (n v : ℕ) (b : List ℕ) {at : ℕ} → v < 256 ^ n → Stands s at (bytes_of n v ++ b) → little_endian n s at ≡ v
  number_here n v b small h = stands_number n v small (stands_first (bytes_of n v) b h)

  past_number : (n v : ℕ) (b : List ℕ) {at : ℕ} (to : ℕ) → at + n ≡ to → Stands s at (bytes_of n v ++ b) → Stands s to b
  past_number n v b to e h = rw e at (rw (bytes_length n v) at (stands_second (bytes_of n v) b h))

module _ (s : List ℕ) (at elements curves : ℕ) (parts : Parts) (h : Stands s at (trailer_bytes elements curves parts)) where
  -- what stands in it after both distances, from the counts on, from the rate on, and from the output on
  abbrev sizeOn : List ℕ
  sizeOn = bytes_of 2 trailer_size

  abbrev outputOn : List ℕ
  outputOn = parts.output ∷ parts.version ∷ sizeOn

  abbrev rateOn : List ℕ
  rateOn = bytes_of 4 parts.rate ++ outputOn

  abbrev countsOn : List ℕ
  countsOn = parts.element_count ∷ parts.curve_count ∷ parts.nodes ∷ parts.driven ∷ rateOn

  at_2 : Stands s (at + 2) (bytes_of 2 curves ++ countsOn)
  unfolding trailer_bytes
  at_2 = past_number 2 elements (bytes_of 2 curves ++ countsOn) (at + 2) refl h

  at_4 : Stands s (at + 4) countsOn
  at_4 = past_number 2 curves countsOn (at + 4) (omega arith) at_2

  at_5 : Stands s (at + 5) (parts.curve_count ∷ parts.nodes ∷ parts.driven ∷ rateOn)
  at_5 = past_byte (at + 5) (omega arith) at_4

  at_6 : Stands s (at + 6) (parts.nodes ∷ parts.driven ∷ rateOn)
  at_6 = past_byte (at + 6) (omega arith) at_5

  at_7 : Stands s (at + 7) (parts.driven ∷ rateOn)
  at_7 = past_byte (at + 7) (omega arith) at_6

  at_8 : Stands s (at + 8) rateOn
  at_8 = past_byte (at + 8) (omega arith) at_7

  at_12 : Stands s (at + 12) outputOn
  at_12 = past_number 4 parts.rate outputOn (at + 12) (omega arith) at_8

  at_13 : Stands s (at + 13) (parts.version ∷ sizeOn)
  at_13 = past_byte (at + 13) (omega arith) at_12

  at_14 : Stands s (at + 14) sizeOn
  at_14 = past_byte (at + 14) (omega arith) at_13

  -- the header, in its widths
  pub record HeaderRead : Type 0 where
    pub version : (header_at s at).version ≡ parts.version
    pub nodes : (header_at s at).nodes ≡ parts.nodes
    pub driven : (header_at s at).driven ≡ parts.driven
    pub output : (header_at s at).output ≡ parts.output
    pub rate : (header_at s at).rate ≡ parts.rate
    pub element_count : (header_at s at).element_count ≡ parts.element_count
    pub curve_count : (header_at s at).curve_count ≡ parts.curve_count

  pub header_read : parts.rate < 256 ^ 4 → HeaderRead
  unfolding header_at
  header_read small = record {
    version = byte_here at_13;
    nodes = byte_here at_6;
    driven = byte_here at_7;
    output = byte_here at_12;
    rate = number_here 4 parts.rate outputOn small at_8;
    element_count = byte_here at_4;
    curve_count = byte_here at_5;
  }

  -- the layout's own fields
  pub element_distance_read : elements < 256 ^ 2 → (trailer_at s at).element_distance ≡ elements
  unfolding trailer_at trailer_bytes
  element_distance_read small = number_here 2 elements (bytes_of 2 curves ++ countsOn) small h

  pub curve_distance_read : curves < 256 ^ 2 → (trailer_at s at).curve_distance ≡ curves
  unfolding trailer_at
  curve_distance_read small = number_here 2 curves countsOn small at_2

  pub size_read : (trailer_at s at).size ≡ trailer_size
  unfolding trailer_at
  size_read = stands_number 2 trailer_size (omega arith) at_14

-- a trailer stands where its fields are read
module _ (s : List ℕ) (at : ℕ) (bytes : (i : ℕ) → get_or s i 0 < 256) where
  pub trailer_stands : (elements curves : ℕ) (parts : Parts) → (trailer_at s at).element_distance ≡ elements → (trailer_at s at).curve_distance ≡ curves → (trailer_at s at).size ≡ trailer_size
      → (header_at s at).version ≡ parts.version → (header_at s at).nodes ≡ parts.nodes → (header_at s at).driven ≡ parts.driven → (header_at s at).output ≡ parts.output
      → (header_at s at).rate ≡ parts.rate → (header_at s at).element_count ≡ parts.element_count → (header_at s at).curve_count ≡ parts.curve_count
      → Stands s at (trailer_bytes elements curves parts)
  unfolding trailer_bytes trailer_at header_at
  trailer_stands elements curves parts distance curve-distance size version nodes driven output rate element_count curve_count =
      number_on s 2 at bytes refl distance
      (number_on s 2 (at + 2) bytes (omega arith) curve-distance
      (byte_on s (at + 4) (omega arith) element_count
      (byte_on s (at + 5) (omega arith) curve_count
      (byte_on s (at + 6) (omega arith) nodes
      (byte_on s (at + 7) (omega arith) driven
      (number_on s 4 (at + 8) bytes (omega arith) rate
      (byte_on s (at + 12) (omega arith) output
      (byte_on s (at + 13) {j = at + 14} (omega arith) version
      (rw (sym size) (number_stands 2 (at + 14) bytes))))))))))
