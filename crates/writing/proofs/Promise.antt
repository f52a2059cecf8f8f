-- What the writer's promise comes to, document 02's request 5: one outcome; reading what was written gives the same parts as far as their counts reach;
-- writing the parts of an accepted image in its version gives its bytes; the writer accepts exactly the parts whose image is accepted; and request 6's other
-- versions. Assumes nothing.
use mathlib.Core.Path.{◌≡◌, refl, sym, ◌∙◌, ap}
use mathlib.Core.Bool.{Bool, true, false, ◌&&◌, cond}
use mathlib.Core.List.{List, ◌++◌}
use mathlib.Core.Logic.{◌↔◌}
use Prim.Native.Nat.{ℕ, ◌+◌, ◌*◌, ◌≤◌, ◌<◌}
use native.Mathlib.Omega.{arith}
use lib.ListN.{length, get_or, take, drop}
use lib.Seq.{take-append_seam}
use borrow.Author.Tests.{eq-eqb, le-leb}
use Rattle.units.specs.Number.{number_of}
use Rattle.units.specs.Table.{between}
use Rattle.units.proofs.Every.{between_says, every_each}
use Rattle.units.specs.declared.number.Number.{Number}
use Rattle.units.specs.declared.number.Number.TheVariants as number
use Rattle.image.specs.Conductance.{conductances_fit}
use Rattle.image.specs.Curve.{padding_fits}
use Rattle.image.specs.Format.{element_size, shortest, longest, header_of, curve_bytes_at, parts_of, length_fits, trailer_fits, sizes_fit, curve_bytes_fit, Opening, opened, rule, opening_of}
use Rattle.image.specs.Judged.{judged_by, judged}
use Rattle.image.specs.Meaning.{network_at}
use Rattle.image.specs.Parts.{version1, version2, in_version, element_of, header_fits, curve_sizes_fit, curves_fit, elements_fit}
use Rattle.image.specs.Setting.{Setting, plain}
use Rattle.image.proofs.Judging.{Keeps, judged_keeps, keeps_judged, judged_sound, opened_judged}
use Rattle.image.proofs.Opening.{opened_kept, opened_0}
use Rattle.image.proofs.Versions.{own_version, version_refused}
use Rattle.image.specs.declared.parts.Parts.{Parts}
use Rattle.writing.specs.Accepted.{Accepted, number_for, image_number}
use Rattle.writing.specs.Image.{curve_bytes, elements_bytes, curves_bytes, image_of}
use Rattle.writing.specs.Reached.{reached, InWidths}
use Rattle.writing.specs.Writes.{answer_for, result_for, Writes}
use Rattle.writing.proofs.Answers.{answers-image, answer-judged, writes_number, writes_length}
use Rattle.writing.proofs.Elements.{element_distance_read, curve_distance_read, size_read}
use Rattle.writing.proofs.Longest.{length_fits_lem}
use Rattle.writing.proofs.Overlaying.{elements_length, image_length}
use Rattle.writing.proofs.ReachedLaws.{header_reached, sizes_reached, curves_reached, elements_reached, conductances_reached, network_reached}
use Rattle.writing.proofs.ReadBack.{trailerPlace, trailer_place, trailer_at_end, header_back, curve_start_lem, curve_bytes_back, parts_back}
use Rattle.writing.proofs.WriteBack.{written_back}
use Rattle.writing.specs.declared.writer.Refusal.{Refusal}
use Rattle.std.specs.Prelude.{Result, Ok}

and_true : (b : Bool) → (b && true) ≡ b
and_true true = refl
and_true false = refl

-- ---- one outcome

pub write_once : (parts : Parts) (before : List ℕ) (r t : Result ℕ Refusal) (a b : List ℕ) → Writes parts before r a → Writes parts before t b → (r ≡ t) × (a ≡ b)
write_once parts before r t a b p q = (p.result ∙ sym q.result, p.buffer ∙ sym q.buffer)

-- where it is written the image stands at the start of the buffer
pub written_stands : (parts : Parts) (before : List ℕ) (n : ℕ) (after : List ℕ) → Writes parts before (Ok n) after → take n after ≡ image_of parts
written_stands parts before n after w =
    let zero_is : answer_for parts (length before) ≡ 0 = sym (writes_number w) in
    let long : n ≡ length (image_of parts) = writes_length w ∙ rw zero_is in
    rw (long, w.buffer, zero_is) (take-append_seam (image_of parts) (drop (length (image_of parts)) before))

-- ---- reading what was written

-- rules 1 to 5, of the image that parts are written as
module _ (parts : Parts) (small : InWidths parts) where
  abbrev image : List ℕ
  image = image_of parts

  trailer_is : trailer_fits image ≡ header_fits parts
  unfolding trailer_fits
  trailer_is = rw (parts_back parts small, header_reached parts, trailer_at_end parts, size_read image (trailerPlace parts) _ _ parts (trailer_place parts)) (and_true (header_fits parts))

  module _ (header : header_fits parts ≡ true) where
    -- a distance of more than 65,535 would be cut; no image is so long
    sizes_are : length_fits (length image) ≡ true → sizes_fit image ≡ curve_sizes_fit parts
    unfolding sizes_fit
    sizes_are long =
        let elements = length (elements_bytes parts) in
        let curves = length (curves_bytes parts) in
        let short = (between_says shortest longest (length image) long).1 in
        let here = elements_length (element_of parts) parts.element_count in
        let e = element_distance_read image (trailerPlace parts) (elements + curves) curves parts (trailer_place parts) (omega (arith, here, image_length parts, short)) in
        let c = curve_distance_read image (trailerPlace parts) (elements + curves) curves parts (trailer_place parts) (omega (arith, image_length parts, short)) in
        rw (trailer_at_end parts, e, c, (header_back parts small).element_count, (header_back parts small).curve_count, parts_back parts small, sizes_reached parts header, curve_start_lem parts parts.curve_count (omega arith), here, eq-eqb (element_size * parts.element_count + curves) (trailerPlace parts) refl)
        (and_true (curve_sizes_fit parts))

    count_back : (header_of image).element_count ≡ parts.element_count
    count_back = rw (trailer_at_end parts) (header_back parts small).element_count

    curve_count_back : (header_of image).curve_count ≡ parts.curve_count
    curve_count_back = rw (trailer_at_end parts) (header_back parts small).curve_count

    padding_fits_lem : (k : ℕ) → k < (header_of image).curve_count → padding_fits (curve_bytes_at image k) ≡ true
    unfolding curve_bytes
    padding_fits_lem k h = rw (count_back, curve_bytes_back parts k (omega (arith, curve_count_back)))

    curves_are : curve_sizes_fit parts ≡ true → curve_bytes_fit image ≡ curves_fit parts
    unfolding curve_bytes_fit
    curves_are sizes = rw (every_each (λ (k : ℕ). padding_fits (curve_bytes_at image k)) (header_of image).curve_count padding_fits_lem, parts_back parts small, curves_reached parts header sizes)

    elements_are : elements_fit (parts_of image) ≡ elements_fit parts
    elements_are = rw (parts_back parts small, elements_reached parts header)

    conductances_are : conductances_fit (parts_of image) plain ≡ conductances_fit parts plain
    conductances_are = rw (parts_back parts small, conductances_reached parts header plain)

-- a rule of parts, and the one of their image, which answer alike
rule_alike : (n : Number) (rest : Opening) {a b : Bool} {r : Number} → a ≡ b → (b ≡ true → r ≡ number_for rest) → judged_by n b r ≡ number_for (rule n a rest)
rule_alike n rest {b = true} e f = rw e (f refl)
rule_alike n rest {b = false} e f = rw e

-- the parts are refused by the number that their image is refused by, if it has the length of an image
pub as_the_image : (parts : Parts) → InWidths parts → length_fits (length (image_of parts)) ≡ true → judged parts ≡ image_number (image_of parts)
unfolding judged opening_of
as_the_image parts small long =
    let image = image_of parts in
    let found = opened (parts_of image) in
    let from-5 = rule number.Element (elements_fit (parts_of image)) found in
    let from-4 = rule number.Curve (curve_bytes_fit image) from-5 in
    let from-3 = rule number.Sizes (sizes_fit image) from-4 in
    rw long
    (rule_alike number.Trailer from-3 (trailer_is parts small) (λ h.
    rule_alike number.Sizes from-4 (sizes_are parts small h long) (λ s.
    rule_alike number.Curve from-5 (curves_are parts small h s) (λ c.
    rule_alike number.Element found (elements_are parts small h) (λ e. rw (conductances_are parts small h) (conductance_alike (conductances_fit parts plain)))))))
  where
    conductance_alike : (b : Bool) → judged_by number.Conductance b number.Done ≡ cond b number.Done number.Conductance
    conductance_alike true = refl
    conductance_alike false = refl

-- the image of parts that break no rule is accepted, as these parts as far as their counts reach
pub read_back : (parts : Parts) → InWidths parts → judged parts ≡ number.Done → Accepted (image_of parts) (reached parts)
read_back parts small e =
    let image = image_of parts in
    let keeps = judged_keeps parts e in
    let h = keeps.header in
    let s = keeps.sizes in
    let long = length_fits_lem parts h s in
    record {
      opening = opened_0 image long (trailer_is parts small ∙ h) (sizes_are parts small h long ∙ s) (curves_are parts small h s ∙ keeps.curves) (elements_are parts small h ∙ keeps.elements) ∙ ap opened (parts_back parts small);
      conductances = conductances_reached parts h plain ∙ keeps.conductances;
    }

-- so it is what the writer leaves, where it hands back a length
pub write_read : (version : ℕ) (parts : Parts) → InWidths (in_version version parts) → (before : List ℕ) (n : ℕ) (after : List ℕ) → Writes (in_version version parts) before (Ok n) after → Accepted (take n after) (reached (in_version version parts))
write_read version parts small before n after w =
    let whole = in_version version parts in
    rw (written_stands whole before n after w) (read_back whole small (answer-judged whole (length before) (sym (writes_number w))))

-- parts whose image is accepted break no rule
accepted_keeps : (parts : Parts) → InWidths parts → (found : Parts) → Accepted (image_of parts) found → Keeps parts
accepted_keeps parts small found a =
    let kept = opened_kept (image_of parts) found a.opening in
    let is : found ≡ reached parts = kept.is ∙ parts_back parts small in
    let header : header_fits parts ≡ true = sym (header_reached parts) ∙ ap header_fits (sym is) ∙ kept.header in
    let sizes : curve_sizes_fit parts ≡ true = sym (sizes_reached parts header) ∙ ap curve_sizes_fit (sym is) ∙ kept.sizes in
    record {
      header = header;
      sizes = sizes;
      curves = sym (curves_reached parts header sizes) ∙ ap curves_fit (sym is) ∙ kept.curves;
      elements = sym (elements_reached parts header) ∙ ap elements_fit (sym is) ∙ kept.elements;
      conductances = sym (conductances_reached parts header plain) ∙ ap (λ (p : Parts). conductances_fit p plain) (sym is) ∙ a.conductances;
    }

-- there are parts that an image is accepted as
pub record Acceptable (image : List ℕ) : Type 0 where
  pub parts : Parts
  pub accepted : Accepted image parts

-- so the writer lets pass exactly the parts whose image the reader accepts
pub accepts_exactly : (parts : Parts) → InWidths parts → (judged parts ≡ number.Done) ↔ Acceptable (image_of parts)
accepts_exactly parts small =
    (λ e. record { parts = reached parts; accepted = read_back parts small e }, λ a. keeps_judged parts (accepted_keeps parts small a.parts a.accepted))

-- and the image means the network that the parts mean
pub same_network : (parts : Parts) → InWidths parts → judged parts ≡ number.Done → (setting : Setting) → network_at (parts_of (image_of parts)) setting ≡ network_at parts setting
same_network parts small e setting = ap (λ (p : Parts). network_at p setting) (parts_back parts small) ∙ network_reached parts (judged_sound parts e).0 setting

-- ---- writing what was read

-- the parts of an accepted image break no rule, and their image is that image, byte for byte
pub write_back : (image : List ℕ) → ((i : ℕ) → get_or image i 0 < 256) → (parts : Parts) → Accepted image parts → (judged parts ≡ number.Done) × (image_of parts ≡ image)
write_back image bytes parts a =
    let kept = opened_kept image parts a.opening in
    (opened_judged image parts a.opening ∙ rw a.conductances, ap image_of kept.is ∙ written_back image bytes (rw kept.is at kept))

-- so the writer makes it of them when it is given their version, in a buffer that has room for it
pub write_again : (image : List ℕ) → ((i : ℕ) → get_or image i 0 < 256) → (parts : Parts) → Accepted image parts → (before : List ℕ) → length image ≤ length before → (r : Result ℕ Refusal) (after : List ℕ) → Writes (in_version parts.version parts) before r after → (r ≡ Ok (length image)) × (after ≡ image ++ drop (length image) before)
unfolding result_for
write_again image bytes parts a before room r after w =
    let back = write_back image bytes parts a in
    let answer = answers-image parts before (ap number_of back.0) (rw back.1 room) in
    let own = rw (own_version parts) at w in
    (own.result ∙ rw (back.0, back.1, le-leb (length image) (length before) room), own.buffer ∙ rw (answer, back.1))

-- and there is one accepted image for given parts
pub one_image : (a b : List ℕ) → ((i : ℕ) → get_or a i 0 < 256) → ((i : ℕ) → get_or b i 0 < 256) → (parts : Parts) → Accepted a parts → Accepted b parts → a ≡ b
one_image a b small small' parts p q = sym (write_back a small parts p).1 ∙ (write_back b small' parts q).1

-- ---- the version

-- one that there is not is refused by 2, whatever else is wrong
pub version_answer : (version : ℕ) (parts : Parts) (room : ℕ) → between version1 version2 version ≡ false → answer_for (in_version version parts) room ≡ 2
unfolding answer_for
version_answer version parts room e = rw (version_refused version parts e)
