-- Reading what was written: the parts of an image that was made from parts are those, as far as their counts reach. Assumes nothing.
use mathlib.Core.Path.{◌≡◌, sym, ◌∙◌, ap}
use mathlib.Core.List.{List, ◌++◌}
use Prim.Native.Nat.{ℕ, zero, suc, ◌+◌, ◌*◌, ◌-◌, ◌≤◌, ◌<◌}
use native.Mathlib.Nat.{zero-add}
use native.Mathlib.Omega.{arith}
use lib.ListN.{length, length-append}
use Rattle.units.specs.Table.{in_turn}
use Rattle.units.proofs.Tables.{padded-same}
use Rattle.network.specs.Network.{branch_limit}
use Rattle.image.specs.Parts.{curve_limit, no_element, no_curve, element_of, curve_of}
use Rattle.image.specs.Curve as layout
use Rattle.image.specs.Curve.{breakpoints_at, curve_in, start_from}
use Rattle.image.specs.Format.{element_size, trailer_size, element_at, parts_of}
use Rattle.image.specs.declared.parts.Curve.{Curve}
use Rattle.image.specs.declared.parts.Parts.{Parts}
use Rattle.writing.specs.Image.{element_bytes, curve_bytes, trailer_bytes, elements_bytes, curves_bytes, image_of}
use Rattle.writing.specs.Reached.{reached_curve, reached, InWidths}
use Rattle.writing.proofs.Stands.{Stands, more, stands_self, stands_at, stands_first, stands_second, stands_turn, stands_cut}
use Rattle.writing.proofs.Overlaying.{turns_within, elements_length, curve_length_lem, image_length}
use Rattle.writing.proofs.Elements.{element_read, HeaderRead, header_read}
use Rattle.writing.proofs.CurveLaws.{curve_read}

module _ (parts : Parts) where
  -- the image, its elements' and its curves' number, and the bytes of element j and of curve k
  abbrev s : List ℕ
  s = image_of parts

  abbrev n : ℕ
  n = parts.element_count

  abbrev elementFrom : ℕ → List ℕ
  elementFrom j = element_bytes (element_of parts j)

  abbrev curveFrom : ℕ → List ℕ
  curveFrom k = curve_bytes (curve_of parts k)

  abbrev last : List ℕ
  last = trailer_bytes (length (elements_bytes parts) + length (curves_bytes parts)) (length (curves_bytes parts)) parts

  -- ---- where they stand

  all : Stands s 0 (elements_bytes parts ++ (curves_bytes parts ++ last))
  unfolding image_of
  all = stands_self (image_of parts)

  element_place : (j : ℕ) → j < n → Stands s (element_size * j) (elementFrom j)
  element_place j h = rw (elements_length (element_of parts) j, zero-add (element_size * j)) at (stands_turn elementFrom n j h (stands_first (elements_bytes parts) (curves_bytes parts ++ last) all))

  from_curves : Stands s (element_size * n) (curves_bytes parts ++ last)
  from_curves = stands_at (zero-add (length (elements_bytes parts)) ∙ elements_length (element_of parts) n) (stands_second (elements_bytes parts) (curves_bytes parts ++ last) all)

  curve_place : (k : ℕ) → k < parts.curve_count → Stands s (element_size * n + length (in_turn curveFrom k)) (curveFrom k)
  curve_place k h = stands_turn curveFrom parts.curve_count k h (stands_first (curves_bytes parts) last from_curves)

  abbrev pub trailerPlace : ℕ
  trailerPlace = element_size * n + length (curves_bytes parts)

  pub trailer_place : Stands s trailerPlace last
  trailer_place = stands_second (curves_bytes parts) last from_curves

  pub trailer_at_end : length s - trailer_size ≡ trailerPlace
  trailer_at_end = omega (arith, image_length parts)

  -- ---- the header

  pub header_back : InWidths parts → HeaderRead s trailerPlace (length (elements_bytes parts) + length (curves_bytes parts)) (length (curves_bytes parts)) parts trailer_place
  header_back small = header_read s trailerPlace (length (elements_bytes parts) + length (curves_bytes parts)) (length (curves_bytes parts)) parts trailer_place small.rate

  -- ---- the curves

  count_here : (at : ℕ) (c : Curve) → Stands s at (curve_bytes c) → breakpoints_at s at ≡ c.count
  unfolding curve_bytes
  count_here at c (more e rest) = e

  pub curve_start_lem : (k : ℕ) → k ≤ parts.curve_count → start_from s (element_size * n) k ≡ element_size * n + length (in_turn curveFrom k)
  unfolding start_from in_turn
  curve_start_lem zero h = omega arith
  curve_start_lem (suc k) h =
      let at = element_size * n + length (in_turn curveFrom k) in
      rw (curve_start_lem k (omega arith), count_here at (curve_of parts k) (curve_place k (omega arith)))
      (omega (arith, length-append (in_turn curveFrom k) (curveFrom k), curve_length_lem (curve_of parts k)))

  curve_within : (k : ℕ) → k < parts.curve_count → element_size * n + length (in_turn curveFrom k) + length (curveFrom k) ≤ length s
  curve_within k h = omega (arith, turns_within curveFrom k parts.curve_count h, image_length parts)

  pub curve_bytes_back : (k : ℕ) → k < parts.curve_count → layout.curve_bytes s (start_from s (element_size * n) k) ≡ curveFrom k
  curve_bytes_back k h =
      let at = element_size * n + length (in_turn curveFrom k) in
      let there = curve_place k h in
      rw (curve_start_lem k (omega arith), count_here at (curve_of parts k) there, sym (curve_length_lem (curve_of parts k)))
      (stands_cut there (curve_within k h))

  -- ---- all of them

  pub parts_back : InWidths parts → parts_of s ≡ reached parts
  unfolding parts_of reached
  parts_back small =
      let h = header_back small in
      rw (
        trailer_at_end,
        h.version,
        h.nodes,
        h.driven,
        h.output,
        h.rate,
        h.element_count,
        h.curve_count,
        padded-same no_element branch_limit (element_at s) (element_of parts) n (λ j l. element_read s j (element_of parts j) (small.elements j l) (element_place j l)),
        padded-same no_curve curve_limit (λ (k : ℕ). curve_in (layout.curve_bytes s (start_from s (element_size * n) k))) (λ (k : ℕ). reached_curve (curve_of parts k)) parts.curve_count
            (λ k l. ap curve_in (curve_bytes_back k l) ∙ curve_read (curve_of parts k) (small.curves k l)),
      )
