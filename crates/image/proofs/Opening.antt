-- The rules with a layout; what they say for the reader's steps; from the rules to the opening, and back. Assumes nothing.
use mathlib.Core.Path.{◌≡◌, refl, ◌∙◌}
use mathlib.Core.Bool.{Bool, true, false, ◌&&◌}
use mathlib.Core.List.{List}
use Prim.Native.Nat.{ℕ, ◌+◌, ◌*◌, ◌-◌, ◌≤◌, ◌<◌}
use native.Mathlib.Omega.{arith}
use lib.Dec.{eqb}
use lib.ListN.{length}
use borrow.Author.Tests.{eqb-true}
use Rattle.units.specs.Number.{number_of}
use Rattle.units.specs.Table.{every}
use Rattle.units.proofs.Every.{both}
use Rattle.image.specs.Parts.{header_fits, curve_sizes_fit, curves_fit, elements_fit}
use Rattle.image.specs.Curve.{padding_fits}
use Rattle.image.specs.Format.{element_size, trailer_size, trailer_of, header_of, curve_start, curve_bytes_at, parts_of, length_fits, trailer_fits, sizes_fit, curve_bytes_fit, Opening, opened, refused, rule, opening_of}
use Rattle.image.specs.Asked.{CurveThere, Headed, Furnished, Whole}
use Rattle.image.specs.Sound.{Sound}
use Rattle.image.proofs.Curves.{splits_says, splits_is}
use Rattle.image.proofs.Says.{header_says}
use Rattle.image.proofs.Sound.{sound}
use Rattle.units.specs.declared.number.Number.{Number}
use Rattle.units.specs.declared.number.Number.TheVariants as number
use Rattle.image.specs.declared.parts.Parts.{Parts}

-- ---- what the rules with a layout say

-- rule 2 looks at nothing but the header
pub trailer_is : (image : List ℕ) → (header_fits (header_of image) && eqb (trailer_of image).size trailer_size) ≡ trailer_fits image
unfolding trailer_fits header_fits parts_of
trailer_is image = refl

pub trailer_says : (image : List ℕ) → trailer_fits image ≡ true → header_fits (parts_of image) ≡ true
unfolding trailer_fits
trailer_says image e = (both {a = header_fits (parts_of image)} {b = eqb (trailer_of image).size trailer_size} e).0

-- rule 3: the elements and the curves are there whole
pub record SizesSay (image : List ℕ) : Type 0 where
  pub room : element_size * (header_of image).element_count ≤ length image
  pub sizes : curve_sizes_fit (parts_of image) ≡ true
  pub curves : (k : ℕ) → k < (header_of image).curve_count → CurveThere image (curve_start image k)

pub sizes_say : (image : List ℕ) → trailer_fits image ≡ true → sizes_fit image ≡ true → SizesSay image
unfolding sizes_fit parts_of
sizes_say image held e =
    let few = (header_says (parts_of image) (trailer_says image held)).few_curves in
    let h = header_of image in
    let t = trailer_of image in
    let end = length image - trailer_size in
    let a = both {b = curve_sizes_fit (parts_of image) && eqb (curve_start image h.curve_count) end} e in
    let b = both {a = eqb t.element_distance end} {b = eqb (element_size * h.element_count + t.curve_distance) end} a.0 in
    record {
      room = omega (arith, eqb-true (element_size * h.element_count + t.curve_distance) end b.1);
      sizes = (both {a = curve_sizes_fit (parts_of image)} {b = eqb (curve_start image h.curve_count) end} a.1).0;
      curves = splits_says image (element_size * h.element_count) h.curve_count end (splits_is image few end ∙ a.1) (omega arith);
    }

-- what the rules that hold say for the steps of the reader that follow
module _ (image : List ℕ) where
  pub headed : (header : Parts) → trailer_size ≤ length image → header ≡ header_of image → trailer_fits image ≡ true → Headed image header
  unfolding parts_of
  headed header long is held =
      let says = header_says (parts_of image) (trailer_says image held) in
      record { is = is; long = long; few_elements = rw is says.few_elements; few_curves = rw is says.few_curves }

  pub furnished : (header : Parts) → header ≡ header_of image → trailer_fits image ≡ true → sizes_fit image ≡ true → Furnished image header
  unfolding parts_of
  furnished header is held sized =
      let says = header_says (parts_of image) (trailer_says image held) in
      let sizes = sizes_say image held sized in
      record { is = is; few = rw is says.few_elements; room = rw is sizes.room; few_curves = rw is says.few_curves; curves = rw is sizes.curves }

  pub whole : (parts : Parts) → parts ≡ parts_of image → trailer_fits image ≡ true → sizes_fit image ≡ true → Whole image parts
  unfolding parts_of
  whole parts is held sized =
      let says = header_says (parts_of image) (trailer_says image held) in
      let sizes = sizes_say image held sized in
      record { is = is; few_curves = rw is says.few_curves; sizes = rw is sizes.sizes; curves = sizes.curves }

-- ---- from the rules to the opening

pub refused_4 : (image : List ℕ) → length_fits (length image) ≡ true → trailer_fits image ≡ true → sizes_fit image ≡ true → curve_bytes_fit image ≡ false → opening_of image ≡ refused number.Curve
unfolding opening_of
refused_4 image a b c d = rw (a, b, c, d)

pub opened_0 : (image : List ℕ) → length_fits (length image) ≡ true → trailer_fits image ≡ true → sizes_fit image ≡ true → curve_bytes_fit image ≡ true → elements_fit (parts_of image) ≡ true → opening_of image ≡ opened (parts_of image)
unfolding opening_of
opened_0 image a b c d e = rw (a, b, c, d, e)

-- ---- and back: what an opened image says

-- a rule that let an opening through holds
rule_held : (n : Number) (b : Bool) (rest : Opening) (parts : Parts) → rule n b rest ≡ opened parts → (b ≡ true) × (rest ≡ opened parts)
rule_held n true rest parts e = (refl, e)
rule_held n false rest parts e = let z : ◌≡◌ {A = ℕ} 0 1 = cc in absurd (omega arith)

same_parts : (a b : Parts) → opened a ≡ opened b → b ≡ a
same_parts a b e = cc

-- the parts of an opened image are those that lie in it, and keep the rules 2 to 5 over parts; the image keeps those with a layout
pub record Kept (image : List ℕ) (parts : Parts) : Type 0 where
  pub is : parts ≡ parts_of image
  pub length_fits_lem : length_fits (length image) ≡ true
  pub trailer_fits_lem : trailer_fits image ≡ true
  pub sizes_fit_lem : sizes_fit image ≡ true
  pub curve_bytes_fit_lem : curve_bytes_fit image ≡ true
  pub header : header_fits parts ≡ true
  pub sizes : curve_sizes_fit parts ≡ true
  pub curves : curves_fit parts ≡ true
  pub elements : elements_fit parts ≡ true

pub opened_kept : (image : List ℕ) (parts : Parts) → opening_of image ≡ opened parts → Kept image parts
unfolding opening_of curve_bytes_fit
opened_kept image parts e =
    let a = rule_held number.Length (length_fits (length image)) _ parts e in
    let b = rule_held number.Trailer (trailer_fits image) _ parts a.1 in
    let c = rule_held number.Sizes (sizes_fit image) _ parts b.1 in
    let d = rule_held number.Curve (curve_bytes_fit image) _ parts c.1 in
    let f = rule_held number.Element (elements_fit (parts_of image)) _ parts d.1 in
    let is = same_parts (parts_of image) parts f.1 in
    let padding = every (λ (k : ℕ). padding_fits (curve_bytes_at image k)) (header_of image).curve_count in
    record {
      is = is;
      length_fits_lem = a.0;
      trailer_fits_lem = b.0;
      sizes_fit_lem = c.0;
      curve_bytes_fit_lem = d.0;
      header = rw is (trailer_says image b.0);
      sizes = rw is (sizes_say image b.0 c.0).sizes;
      curves = rw is (both {a = padding} {b = curves_fit (parts_of image)} d.0).1;
      elements = rw is f.0;
    }

-- and so are sound
pub opened_sound : (image : List ℕ) (parts : Parts) → opening_of image ≡ opened parts → (parts ≡ parts_of image) × Sound parts
opened_sound image parts e =
    let k = opened_kept image parts e in
    (k.is, sound parts k.header k.sizes k.curves k.elements)

-- ---- the numbers that an image is refused by: 1 to 5

passed_over : (n : Number) (holds : Bool) (rest : Opening) → (1 ≤ number_of n) × (number_of n ≤ 5) → ((k : Number) → rest ≡ refused k → (1 ≤ number_of k) × (number_of k ≤ 5)) → (k : Number) → rule n holds rest ≡ refused k → (1 ≤ number_of k) × (number_of k ≤ 5)
passed_over n true rest here there k e = there k e
passed_over n false rest here there k e = let same : n ≡ k = cc in rw (← same) here

never : (parts : Parts) (k : Number) → opened parts ≡ refused k → (1 ≤ number_of k) × (number_of k ≤ 5)
never parts k e = let z : ◌≡◌ {A = ℕ} 0 1 = cc in absurd (omega arith)

pub refused_early : (image : List ℕ) (k : Number) → opening_of image ≡ refused k → (1 ≤ number_of k) × (number_of k ≤ 5)
unfolding opening_of
refused_early image =
    passed_over number.Length (length_fits (length image)) _ (omega arith, omega arith)
    (passed_over number.Trailer (trailer_fits image) _ (omega arith, omega arith)
    (passed_over number.Sizes (sizes_fit image) _ (omega arith, omega arith)
    (passed_over number.Curve (curve_bytes_fit image) _ (omega arith, omega arith)
    (passed_over number.Element (elements_fit (parts_of image)) _ (omega arith, omega arith)
    (never (parts_of image))))))
