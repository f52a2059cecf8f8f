-- Writing what was read: the image of an opened image's parts is that image, byte for byte. Assumes nothing.
use mathlib.Core.Path.{◌≡◌, refl, sym, ◌∙◌, ap}
use mathlib.Core.Bool.{true, ◌&&◌}
use mathlib.Core.List.{List, ◌++◌}
use mathlib.Core.Logic.{⊎_elim}
use Prim.Native.Nat.{ℕ, zero, suc, ◌+◌, ◌*◌, ◌-◌, ◌≤◌, ◌<◌}
use native.Mathlib.Nat.{zero-add}
use native.Mathlib.Omega.{arith}
use lib.Dec.{eqb}
use lib.ListN.{length, get_or, take, drop, length-append, length-take, get_or-eq_default}
use lib.Seq.{get_or-take, get_or-drop}
use borrow.Author.Tests.{eqb-true}
use Rattle.units.specs.Table.{every, in_turn}
use Rattle.units.proofs.Every.{both, between_says, every_says}
use Rattle.units.proofs.Integers.{decide_n}
use Rattle.units.proofs.Tables.{padded_at}
use Rattle.network.specs.Network.{branch_limit}
use Rattle.image.specs.Asked.{CurveThere}
use Rattle.image.specs.Parts.{curve_limit, no_element, element_of, curve_of, header_fits, curve_sizes_fit, curves_fit}
use Rattle.image.specs.Curve.{breakpoints_at, curve_length, start_from, padding_fits}
use Rattle.image.specs.Format.{element_size, trailer_size, trailer_of, header_of, element_at, curve_start, curve_bytes_at, parts_of, trailer_fits, sizes_fit, curve_bytes_fit}
use Rattle.image.proofs.Curves.{curve_is, curve_whole, curve_length_lem}
use Rattle.image.proofs.Opening.{Kept, sizes_say}
use Rattle.image.proofs.Places.{element_there}
use Rattle.image.proofs.Says.{header_says}
use Rattle.image.specs.declared.parts.Parts.{Parts}
use Rattle.writing.specs.Image.{element_bytes, curve_bytes, trailer_bytes, elements_bytes, curves_bytes, image_of}
use Rattle.writing.proofs.Stands.{Stands, stands_both, stands_turns, cut_stands, stands_whole}
use Rattle.writing.proofs.Overlaying as lengths
use Rattle.writing.proofs.Elements.{element_stands, trailer_stands}
use Rattle.writing.proofs.CurveLaws.{curve_written}

module _ (image : List ℕ) (bytes : (i : ℕ) → get_or image i 0 < 256) (kept : Kept image (parts_of image)) where
  abbrev parts : Parts
  parts = parts_of image

  abbrev header : Parts
  header = header_of image

  abbrev n : ℕ
  n = header.element_count

  abbrev elementFrom : ℕ → List ℕ
  elementFrom j = element_bytes (element_of parts j)

  abbrev curveFrom : ℕ → List ℕ
  curveFrom k = curve_bytes (curve_of parts k)

  abbrev before : ℕ
  before = length image - trailer_size

  few_elements : n ≤ branch_limit
  unfolding parts_of
  few_elements = (header_says parts kept.header).few_elements

  few_curves : header.curve_count ≤ curve_limit
  unfolding parts_of
  few_curves = (header_says parts kept.header).few_curves

  -- ---- what the layout's rules say

  pub record Laid : Type 0 where
    pub elements_back : (trailer_of image).element_distance ≡ before
    pub curves_back : element_size * n + (trailer_of image).curve_distance ≡ before
    pub size : (trailer_of image).size ≡ trailer_size
    pub filled : curve_start image header.curve_count ≡ before
    pub padding : (k : ℕ) → k < header.curve_count → padding_fits (curve_bytes_at image k) ≡ true

  laid : Laid
  unfolding sizes_fit trailer_fits curve_bytes_fit
  laid =
      let t = trailer_of image in
      let a = both {a = eqb t.element_distance before && eqb (element_size * n + t.curve_distance) before} {b = curve_sizes_fit parts && eqb (curve_start image header.curve_count) before} kept.sizes_fit_lem in
      let b = both {a = eqb t.element_distance before} {b = eqb (element_size * n + t.curve_distance) before} a.0 in
      let c = both {a = curve_sizes_fit parts} {b = eqb (curve_start image header.curve_count) before} a.1 in
      let size = both {a = header_fits parts} {b = eqb t.size trailer_size} kept.trailer_fits_lem in
      let padding = both {a = every (λ (k : ℕ). padding_fits (curve_bytes_at image k)) header.curve_count} {b = curves_fit parts} kept.curve_bytes_fit_lem in
      record {
        elements_back = eqb-true t.element_distance before b.0;
        curves_back = eqb-true (element_size * n + t.curve_distance) before b.1;
        size = eqb-true t.size trailer_size size.1;
        filled = eqb-true (curve_start image header.curve_count) before c.1;
        padding = λ k h. every_says (λ (k : ℕ). padding_fits (curve_bytes_at image k)) header.curve_count k padding.0 h;
      }

  curve_there : (k : ℕ) → k < header.curve_count → CurveThere image (curve_start image k)
  curve_there = (sizes_say image kept.trailer_fits_lem kept.sizes_fit_lem).curves

  -- ---- elements

  element_is : (j : ℕ) → j < n → element_of parts j ≡ element_at image j
  unfolding parts_of
  element_is j h = element_there parts j h ∙ padded_at no_element branch_limit (element_at image) n j few_elements h

  elements_stand : Stands image 0 (in_turn elementFrom n)
  elements_stand = stands_turns elementFrom n (λ j h. rw (lengths.elements_length (element_of parts) j, zero-add (element_size * j), element_is j h) (element_stands image j bytes))

  -- ---- curves

  bytes_of_curve : (k i : ℕ) → get_or (curve_bytes_at image k) i 0 < 256
  bytes_of_curve k i = cut_small (curve_length (breakpoints_at image (curve_start image k))) (curve_start image k) i
    where
      cut_small : (m at i : ℕ) → get_or (take m (drop at image)) i 0 < 256
      cut_small m at i =
          ⊎_elim
          (λ (h : m ≤ i). rw (get_or-eq_default (take m (drop at image)) 0 {n = i} (omega (arith, length-take m (drop at image)))) (omega arith))
          (λ (h : i < m). rw (get_or-take m (drop at image) i 0 h, get_or-drop at image i 0) (bytes (at + i)))
          (decide_n m i)

  curve_from : (k : ℕ) → k < header.curve_count → curveFrom k ≡ curve_bytes_at image k
  curve_from k h =
      let there = curve_there k h in
      let whole = curve_whole image (curve_start image k) there in
      ap curve_bytes (curve_is image few_curves k h) ∙ curve_written (curve_bytes_at image k) (bytes_of_curve k) whole.0 whole.1 (laid.padding k h)

  starts : (k : ℕ) → k ≤ header.curve_count → element_size * n + length (in_turn curveFrom k) ≡ curve_start image k
  unfolding in_turn start_from
  starts zero h = omega arith
  starts (suc k) h =
      omega (arith, starts k (omega arith), length-append (in_turn curveFrom k) (curveFrom k), ap (λ (l : List ℕ). length l) (curve_from k (omega arith)), curve_length_lem image (curve_start image k) (curve_there k (omega arith)))

  curves_stand : Stands image (element_size * n) (in_turn curveFrom header.curve_count)
  curves_stand =
      stands_turns curveFrom header.curve_count
      (λ k h.
      let there = curve_there k h in
      rw (starts k (omega arith), curve_from k h) (cut_stands (curve_length (breakpoints_at image (curve_start image k))) (curve_start image k) there.whole))

  -- ---- the trailer, and all of it

  curves_long : length (curves_bytes parts) ≡ (trailer_of image).curve_distance
  unfolding parts_of
  curves_long = omega (arith, starts header.curve_count (omega arith), laid.filled, laid.curves_back)

  elements_long : length (elements_bytes parts) ≡ element_size * n
  unfolding parts_of
  elements_long = lengths.elements_length (element_of parts) n

  trailer_stand : Stands image before (trailer_bytes (length (elements_bytes parts) + length (curves_bytes parts)) (length (curves_bytes parts)) parts)
  unfolding parts_of
  trailer_stand =
      trailer_stands image before bytes (length (elements_bytes parts) + length (curves_bytes parts)) (length (curves_bytes parts)) parts
      (omega (arith, laid.elements_back, laid.curves_back, curves_long, elements_long)) (sym curves_long) laid.size refl refl refl refl refl refl refl

  long_enough : trailer_size ≤ length image
  long_enough = omega (arith, between_says 24 1360 (length image) kept.length_fits_lem)

  pub written_back : image_of parts ≡ image
  unfolding image_of parts_of
  written_back =
      let curves = curves_bytes parts in
      let last = trailer_bytes (length (elements_bytes parts) + length curves) (length curves) parts in
      let at-curves : 0 + length (elements_bytes parts) ≡ element_size * n = omega (arith, elements_long) in
      let at_last : element_size * n + length curves ≡ before = omega (arith, starts header.curve_count (omega arith), laid.filled) in
      sym
      (stands_whole
      (stands_both (elements_bytes parts) (curves ++ last) elements_stand (rw at-curves (stands_both curves last curves_stand (rw at_last trailer_stand))))
      (omega (arith, lengths.image_length parts, at_last, long_enough)))
