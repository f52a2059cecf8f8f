-- The image's bytes as the code stores them: how many each part has, which stores a part is, and that the parts written one after the
-- other are the image. Assumes nothing.
use mathlib.Core.Path.{◌≡◌, refl, sym, ◌∙◌, ap}
use mathlib.Core.List.{List, [], ◌∷◌, ◌++◌, append_assoc}
use mathlib.Core.Logic.{⊎_elim}
use Prim.Native.Nat.{ℕ, zero, suc, ◌+◌, ◌*◌, ◌/◌, ◌%◌, ◌≤◌, ◌<◌}
use native.Mathlib.Nat.{add_assoc, zero-add}
use native.Mathlib.Numerals.{add-one}
use native.Mathlib.Omega.{arith}
use lib.IntN.{ℤ}
use lib.ListN.{length, get_or, take, drop, set, length-append, length-take}
use lib.Seq.{sets, sets-eq}
use mir.Syntax.{w32}
use mir.Val.{of_z}
use Rattle.std.proofs.lemmas.List.{get_or-take, get_or_default}
use Rattle.units.specs.Bytes.{written}
use Rattle.units.specs.Table.{overlaid, in_turn}
use Rattle.units.proofs.Integers.{decide_n}
use Rattle.units.proofs.Tables.{overlaid-append, tabulate-length}
use Rattle.network.specs.Network.{reading}
use Rattle.image.specs.Parts.{no_element, no_curve, element_of, curve_of, breakpoints_of}
use Rattle.image.specs.Curve.{curve_length}
use Rattle.image.specs.Format.{element_size, trailer_size}
use Rattle.image.specs.Sound.{Sound}
use Rattle.image.proofs.Places.{element_there, curve_there}
use Rattle.image.specs.declared.parts.Curve.{Curve}
use Rattle.image.specs.declared.parts.Element.{Element}
use Rattle.image.specs.declared.parts.Parts.{Parts}
use Rattle.writing.specs.Asked.{CurvesFew}
use Rattle.writing.specs.Image.{bytes_of, element_bytes, slope_bytes, breakpoint_bytes, curve_bytes, trailer_bytes, elements_bytes, curves_bytes, image_of}

-- ---- the bytes of a number

pub bytes_length : (n v : ℕ) → length (bytes_of n v) ≡ n
unfolding bytes_of
bytes_length zero v = refl
bytes_length (suc n) v = ap suc (bytes_length n (v / 256))

-- units' store of n bytes
pub written_is : (n : ℕ) (s : List ℕ) (at v : ℕ) → written n s at v ≡ overlaid s at (bytes_of n v)
unfolding written overlaid bytes_of
written_is zero s at v = refl
written_is (suc n) s at v = written_is n (set s at (v % 256)) (at + 1) (v / 256)

-- ---- parts in turn

module _ (f : ℕ → List ℕ) where
  pub turn_none : (l : List ℕ) (at : ℕ) → l ≡ overlaid l at (in_turn f 0)
  unfolding overlaid in_turn
  turn_none l at = refl

  -- one more, where the others end
  pub turn_more : (l : List ℕ) (at n : ℕ) {m k v : List ℕ} {here : ℕ} → m ≡ overlaid l at (in_turn f n) → k ≡ overlaid m here v → here ≡ at + length (in_turn f n) → v ≡ f n → k ≡ overlaid l at (in_turn f (n + 1))
  unfolding in_turn
  turn_more l at n p q e s = q ∙ rw (p, e, s, add-one n) (overlaid-append l at (in_turn f n) (f n))

  turns_length : (w : ℕ) → ((j : ℕ) → length (f j) ≡ w) → (n : ℕ) → length (in_turn f n) ≡ w * n
  unfolding in_turn
  turns_length w each zero = omega arith
  turns_length w each (suc n) = omega (arith, length-append (in_turn f n) (f n), each n, turns_length w each n)

  pub turn_start : (at : ℕ) → at ≡ at + length (in_turn f 0)
  unfolding in_turn
  turn_start at = omega arith

  pub turn_length : (n : ℕ) → length (in_turn f (n + 1)) ≡ length (in_turn f n) + length (f n)
  unfolding in_turn
  turn_length n = rw (add-one n) (length-append (in_turn f n) (f n))

  -- each ends before the last does
  pub turns_within : (k n : ℕ) → k < n → length (in_turn f k) + length (f k) ≤ length (in_turn f n)
  unfolding in_turn
  turns_within k zero h = absurd (omega arith)
  turns_within k (suc n) h =
      ⊎_elim
      (λ (q : n ≤ k). let e : k ≡ n = omega arith in rw e (omega (arith, length-append (in_turn f n) (f n))))
      (λ (q : k < n). omega (arith, length-append (in_turn f n) (f n), turns_within k n q))
      (decide_n n k)

-- parts that are the same one by one
turn_same : (f g : ℕ → List ℕ) (n : ℕ) → ((j : ℕ) → j < n → f j ≡ g j) → in_turn f n ≡ in_turn g n
unfolding in_turn
turn_same f g zero same = refl
turn_same f g (suc n) same = rw (turn_same f g n (λ j h. same j (omega arith)), same n (omega arith))

-- element j and curve k of an array
abbrev pub element_in : List Element → ℕ → List ℕ
element_in elements j = element_bytes (get_or elements j no_element)

abbrev pub curve_in : List Curve → ℕ → List ℕ
curve_in curves k = curve_bytes (get_or curves k no_curve)

-- an item of the first n, whatever stands for one that is not there
pub among : {A : Type 0} (l : List A) (n j : ℕ) (d x : A) → j < length (take n l) → get_or (take n l) j x ≡ get_or l j d
among l n j d x there = get_or-take n l j x (omega (arith, length-take n l)) ∙ get_or_default l j x d (omega (arith, length-take n l))

-- what the code reads past an array
abbrev pub read_past : Curve
read_past = record { count = 0; slopes = []; breakpoints = [] }

-- those of the parts, as far as the counts reach
pub elements_there : (parts : Parts) → in_turn (element_in parts.elements) parts.element_count ≡ elements_bytes parts
elements_there parts = turn_same _ _ parts.element_count (λ j h. ap element_bytes (sym (element_there parts j h)))

pub curves_there : (parts : Parts) → in_turn (curve_in parts.curves) parts.curve_count ≡ curves_bytes parts
curves_there parts = turn_same _ _ parts.curve_count (λ k h. ap curve_bytes (sym (curve_there parts k h)))

-- ---- how many bytes

element_length : (e : Element) → length (element_bytes e) ≡ element_size
unfolding element_bytes bytes_of
element_length e = refl

pub elements_length : (element : ℕ → Element) (n : ℕ) → length (in_turn (λ (j : ℕ). element_bytes (element j)) n) ≡ element_size * n
elements_length element n = turns_length (λ (j : ℕ). element_bytes (element j)) element_size (λ j. element_length (element j)) n

-- those of the first n numbers alone
pub first_bytes : (l : List ℕ) (n : ℕ) → n ≤ length l → in_turn (slope_bytes (take n l)) (length (take n l)) ≡ in_turn (slope_bytes l) n
first_bytes l n h =
    let e : length (take n l) ≡ n = omega (arith, length-take n l) in
    rw e (turn_same _ _ n (λ j k. ap (bytes_of 4) (get_or-take n l j 0 k)))

-- breakpoints' bits have the breakpoints' bytes
pub bits_bytes : (bits : List ℕ) (breakpoints : List ℤ) (n : ℕ) → ((j : ℕ) → j < n → get_or bits j 0 ≡ of_z w32 (reading breakpoints j)) → in_turn (slope_bytes bits) n ≡ in_turn (breakpoint_bytes breakpoints) n
bits_bytes bits breakpoints n same = turn_same _ _ n (λ j h. ap (bytes_of 4) (same j h))

pub slopes_length : (slopes : List ℕ) (n : ℕ) → length (in_turn (slope_bytes slopes) n) ≡ 4 * n
slopes_length slopes n = turns_length (slope_bytes slopes) 4 (λ j. bytes_length 4 _) n

pub breakpoints_length : (breakpoints : List ℤ) (n : ℕ) → length (in_turn (breakpoint_bytes breakpoints) n) ≡ 4 * n
breakpoints_length breakpoints n = turns_length (breakpoint_bytes breakpoints) 4 (λ j. bytes_length 4 _) n

pub curve_length_lem : (c : Curve) → length (curve_bytes c) ≡ curve_length c.count
unfolding curve_bytes
curve_length_lem c =
    let slopes = in_turn (slope_bytes c.slopes) (c.count + 1) in
    let breakpoints = in_turn (breakpoint_bytes c.breakpoints) c.count in
    omega (arith, length-append slopes breakpoints, slopes_length c.slopes (c.count + 1), breakpoints_length c.breakpoints c.count)

trailer_length : (elements curves : ℕ) (parts : Parts) → length (trailer_bytes elements curves parts) ≡ trailer_size
unfolding trailer_bytes bytes_of
trailer_length elements curves parts = refl

pub image_length : (parts : Parts) → length (image_of parts) ≡ element_size * parts.element_count + length (curves_bytes parts) + trailer_size
unfolding image_of
image_length parts =
    let curves = curves_bytes parts in
    let trailer = trailer_bytes (length (elements_bytes parts) + length curves) (length curves) parts in
    omega (arith, length-append (elements_bytes parts) (curves ++ trailer), length-append curves trailer, elements_length (element_of parts) parts.element_count, trailer_length (length (elements_bytes parts) + length curves) (length curves) parts)

-- ---- which stores a part is

module _ (s : List ℕ) (at : ℕ) where
  four_laid : (a b c d : ℕ) → overlaid s at (a ∷ b ∷ c ∷ d ∷ []) ≡ set (set (set (set s at a) (at + 1) b) (at + 2) c) (at + 3) d
  unfolding overlaid
  four_laid a b c d = simp add_assoc

  pub element_laid : (e : Element) → overlaid s at (element_bytes e) ≡ written 4 (set (set (set (set s at e.kind) (at + 1) e.p) (at + 2) e.q) (at + 3) e.curve) (at + 4) e.value
  unfolding element_bytes bytes_of written overlaid
  element_laid e = simp add_assoc

  pub curve_laid : (c : Curve) → overlaid s at (curve_bytes c) ≡ overlaid (overlaid (set (set (set (set s at c.count) (at + 1) 0) (at + 2) 0) (at + 3) 0) (at + 4) (in_turn (slope_bytes c.slopes) (c.count + 1))) (at + 8 + 4 * c.count) (in_turn (breakpoint_bytes c.breakpoints) c.count)
  unfolding curve_bytes
  curve_laid c =
      let front = set (set (set (set s at c.count) (at + 1) 0) (at + 2) 0) (at + 3) 0 in
      let slopes = in_turn (slope_bytes c.slopes) (c.count + 1) in
      let breakpoints = in_turn (breakpoint_bytes c.breakpoints) c.count in
      let end : at + 4 + length slopes ≡ at + 8 + 4 * c.count = omega (arith, slopes_length c.slopes (c.count + 1)) in
      sym (overlaid-append s at (c.count ∷ 0 ∷ 0 ∷ 0 ∷ []) (slopes ++ breakpoints))
      ∙ rw (four_laid c.count 0 0 0, ← end) (sym (overlaid-append front (at + 4) slopes breakpoints))

  pub trailer_laid : (elements curves : ℕ) (parts : Parts) → overlaid s at (trailer_bytes elements curves parts) ≡ (
      let distances = written 2 (written 2 s at elements) (at + 2) curves in
      let counts = set (set distances (at + 4) parts.element_count) (at + 5) parts.curve_count in
      let nodes = set (set counts (at + 6) parts.nodes) (at + 7) parts.driven in
      let heard = set (written 4 nodes (at + 8) parts.rate) (at + 12) parts.output in
      written 2 (set heard (at + 13) parts.version) (at + 14) trailer_size)
  unfolding trailer_bytes bytes_of written overlaid
  trailer_laid elements curves parts = simp add_assoc

-- ---- the whole

-- what is laid over the front of a list
overlaid_sets : (l : List ℕ) (at : ℕ) (values : List ℕ) → overlaid l at values ≡ sets l at values
unfolding overlaid
overlaid_sets l at [] = refl
overlaid_sets l at (v ∷ values) = rw (add-one at) (overlaid_sets (set l at v) (suc at) values)

overlaid_front : (l values : List ℕ) → length values ≤ length l → overlaid l 0 values ≡ values ++ drop (length values) l
overlaid_front l values h = overlaid_sets l 0 values ∙ rw (zero-add (length values)) at (sets-eq values l 0 (omega arith))

-- three parts, one after the other, from the first place on
three_laid : (l a b c : List ℕ) → length (a ++ (b ++ c)) ≤ length l → overlaid (overlaid (overlaid l 0 a) (length a) b) (length a + length b) c ≡ a ++ (b ++ c) ++ drop (length (a ++ (b ++ c))) l
three_laid l a b c h =
    let two : overlaid (overlaid l 0 a) (length a) b ≡ overlaid l 0 (a ++ b) = rw (zero-add (length a)) at (overlaid-append l 0 a b) in
    let all : overlaid (overlaid l 0 (a ++ b)) (length a + length b) c ≡ overlaid l 0 (a ++ b ++ c) = rw (zero-add (length (a ++ b)), length-append a b) at (overlaid-append l 0 (a ++ b) c) in
    rw (two, all, append_assoc a b c) (overlaid_front l (a ++ (b ++ c)) h)

-- the elements, the curves and the trailer in a buffer that has room for them
pub image_laid : (parts : Parts) (curves : ℕ) (l : List ℕ) {a b c : List ℕ} → curves ≡ length (curves_bytes parts) → length (image_of parts) ≤ length l → a ≡ overlaid l 0 (elements_bytes parts) → b ≡ overlaid a (element_size * parts.element_count) (curves_bytes parts) → c ≡ overlaid b (element_size * parts.element_count + curves) (trailer_bytes (element_size * parts.element_count + curves) curves parts) → c ≡ image_of parts ++ drop (length (image_of parts)) l
unfolding image_of
image_laid parts curves l e room p q r =
    let first : element_size * parts.element_count ≡ length (elements_bytes parts) = sym (elements_length (element_of parts) parts.element_count) in
    r
    ∙ rw (q, p, first, e)
    (three_laid l (elements_bytes parts) (curves_bytes parts) (trailer_bytes (length (elements_bytes parts) + length (curves_bytes parts)) (length (curves_bytes parts)) parts) room)

-- ---- what the rules give

pub curves_few : (parts : Parts) → Sound parts → CurvesFew parts
unfolding breakpoints_of
curves_few parts s = record {
  few = s.few_curves;
  short = λ k h. let c = curve_of parts k in rw (tabulate-length (reading c.breakpoints) c.count) at (s.curves k h).few;
}
