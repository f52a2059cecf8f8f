-- Laws of curves in the image: where they start, what it means that they split the curve bytes, and how long their bytes are.
-- Assumes nothing.
use mathlib.Core.Path.{◌≡◌, refl, ◌∙◌}
use mathlib.Core.Bool.{Bool, true, false, ◌&&◌}
use mathlib.Core.List.{List}
use Prim.Native.Nat.{ℕ, zero, suc, ◌+◌, ◌*◌, ◌-◌, ◌≤◌, ◌<◌}
use native.Mathlib.Omega.{arith}
use native.Mathlib.Numerals.{add-one}
use lib.Dec.{eqb}
use lib.ListN.{length, get_or, drop, length-take, length-drop}
use lib.Seq.{get_or-take, get_or-drop}
use borrow.Author.Tests.{eqb-true}
use Rattle.units.specs.Table.{every}
use Rattle.units.proofs.Tables.{padded_at}
use Rattle.units.proofs.Every.{both, between_says, every_says, every_fails, every_same}
use Rattle.network.specs.Network.{breakpoint_count_limit}
use Rattle.image.specs.Parts.{curve_limit, no_curve, curve_of, curve_size_fits, curve_sizes_fit}
use Rattle.image.specs.Curve.{breakpoints_at, curve_length, curve_bytes, curve_in, start_from, splits}
use Rattle.image.specs.Format.{element_size, header_of, curve_start, curve_bytes_at, parts_of}
use Rattle.image.specs.Asked.{CurveThere}
use Rattle.image.proofs.Places.{curve_there}

pub start_none : (image : List ℕ) (first : ℕ) → first ≡ start_from image first 0
unfolding start_from
start_none image first = refl

pub start_more : (image : List ℕ) (first k : ℕ) → start_from image first (k + 1) ≡ start_from image first k + curve_length (breakpoints_at image (start_from image first k))
unfolding start_from
start_more image first k = rw add-one

-- later curves start later
start_grows : (image : List ℕ) (first k d : ℕ) → start_from image first k ≤ start_from image first (k + d)
start_grows image first k zero =
    let e : k + 0 ≡ k = omega arith in
    rw e (omega arith)
start_grows image first k (suc d) =
    let e : k + suc d ≡ k + d + 1 = omega arith in
    rw e (omega (arith, start_grows image first k d, start_more image first (k + d)))

module _ (image : List ℕ) (first count end : ℕ) where
  -- whether curve k has a size in range
  abbrev sized : ℕ → Bool
  sized k = curve_size_fits (breakpoints_at image (start_from image first k))

  -- one curve that has none
  pub splits_fails : (k : ℕ) → k < count → sized k ≡ false → splits image first count end ≡ false
  unfolding splits
  splits_fails k h e = rw (every_fails sized count k h e)

  -- all have one: the last must end where the trailer starts
  pub splits_ends : every sized count ≡ true → splits image first count end ≡ eqb (start_from image first count) end
  unfolding splits
  splits_ends e = rw e

  -- what a split says: each curve is there whole
  pub splits_says : splits image first count end ≡ true → end ≤ length image → (k : ℕ) → k < count → CurveThere image (start_from image first k)
  unfolding splits
  splits_says s h k l =
      let t = both {a = every sized count} {b = eqb (start_from image first count) end} s in
      let m = between_says 1 breakpoint_count_limit (breakpoints_at image (start_from image first k)) (every_says sized count k t.0 l) in
      let e = eqb-true (start_from image first count) end t.1 in
      let d : k + 1 + (count - (k + 1)) ≡ count = omega arith in
      let g : start_from image first (k + 1) ≤ start_from image first count = rw d at (start_grows image first (k + 1) (count - (k + 1))) in
      record { some = m.0; few = m.1; whole = omega (arith, start_more image first k) }

-- the first byte of a curve says how many breakpoints it has
pub curve_head : (image : List ℕ) (at : ℕ) → get_or (curve_bytes image at) 0 0 ≡ breakpoints_at image at
curve_head image at =
    let e : at + 0 ≡ at = omega arith in
    get_or-take (curve_length (breakpoints_at image at)) (drop at image) 0 0 (omega arith) ∙ get_or-drop at image 0 0 ∙ rw e

-- a curve that is there has as many bytes as it says, and as many breakpoints as it may
module _ (image : List ℕ) (at : ℕ) (there : CurveThere image at) where
  pub curve_length_lem : length (curve_bytes image at) ≡ curve_length (breakpoints_at image at)
  curve_length_lem = simp (length-take, length-drop) (omega (arith, there.whole))

  pub curve_whole : (get_or (curve_bytes image at) 0 0 ≤ breakpoint_count_limit) × (length (curve_bytes image at) ≡ curve_length (get_or (curve_bytes image at) 0 0))
  curve_whole = rw (curve_head image at) (there.few, curve_length_lem)

-- ---- the curves of an image's parts

module _ (image : List ℕ) (few : (header_of image).curve_count ≤ curve_limit) where
  pub curve_is : (k : ℕ) → k < (header_of image).curve_count → curve_of (parts_of image) k ≡ curve_in (curve_bytes_at image k)
  unfolding parts_of
  curve_is k h = curve_there (parts_of image) k h ∙ padded_at no_curve curve_limit (λ (k : ℕ). curve_in (curve_bytes_at image k)) (header_of image).curve_count k few h

  -- they split the curve bytes as the bytes say
  pub splits_is : (end : ℕ) → splits image (element_size * (header_of image).element_count) (header_of image).curve_count end ≡ (curve_sizes_fit (parts_of image) && eqb (curve_start image (header_of image).curve_count) end)
  unfolding splits curve_sizes_fit parts_of curve_in
  splits_is end =
      rw (every_same (λ (k : ℕ). curve_size_fits (breakpoints_at image (curve_start image k))) (λ (k : ℕ). curve_size_fits (curve_of (parts_of image) k).count) (header_of image).curve_count same)
    where
      same : (k : ℕ) → k < (header_of image).curve_count → curve_size_fits (breakpoints_at image (curve_start image k)) ≡ curve_size_fits (curve_of (parts_of image) k).count
      same k h = rw (curve_is k h, curve_head image (curve_start image k))
