-- What an accepted netlist's image is, in each version: accepted, as the same parts as far as their counts reach, and the same network; and that beside 0 it is
-- what stands in the buffer. Assumes nothing.
use mathlib.Core.Path.{◌≡◌, refl, sym, ◌∙◌, ap}
use mathlib.Core.Bool.{Bool, true, false}
use mathlib.Core.List.{List, ◌++◌}
use Prim.Native.Nat.{ℕ, ◌<◌}
use native.Mathlib.Omega.{arith}
use lib.Dec.{eqb}
use lib.ListN.{length, take, drop}
use lib.Seq.{take-append_seam}
use borrow.Author.Tests.{eqb-true}
use Rattle.units.specs.Table.{between}
use Rattle.image.specs.Format.{parts_of}
use Rattle.image.specs.Meaning.{network_at}
use Rattle.image.specs.Parts.{version1, version2, in_version}
use Rattle.image.specs.Setting.{Setting}
use Rattle.image.proofs.Versions.{own_version, version_passes}
use Rattle.netlist.specs.Answer.{Answer, answer_number, answer_parts, Answers}
use Rattle.netlist.proofs.Promise.{accepted_judged, accepted_version}
use Rattle.writing.specs.Accepted.{Accepted}
use Rattle.writing.specs.Image.{image_of}
use Rattle.writing.specs.Reached.{reached}
use Rattle.writing.specs.Writes.{answer_for, buffer_beside}
use Rattle.writing.proofs.Promise.{read_back, same_network}
use Rattle.desk.specs.Drawn.{number_unit, call_number, call_count, Drawn}
use Rattle.desk.proofs.Promise.{version_2}
use Rattle.desk.proofs.Widths.{in_widths}

module _ (text : List ℕ) {a : Answer} (answers : Answers text a) (accepted : answer_number a ≡ 0) where
  -- in a version that there is
  module _ (version : ℕ) (there : between version1 version2 version ≡ true) where
    pub netlist_image : Accepted (image_of (in_version version (answer_parts a))) (reached (in_version version (answer_parts a)))
    netlist_image = read_back (in_version version (answer_parts a)) (in_widths text answers accepted version there) (version_passes version (answer_parts a) there (accepted_judged text answers accepted))

    pub netlist_network : (setting : Setting) → network_at (parts_of (image_of (in_version version (answer_parts a)))) setting ≡ network_at (in_version version (answer_parts a)) setting
    netlist_network = same_network (in_version version (answer_parts a)) (in_widths text answers accepted version there) (version_passes version (answer_parts a) there (accepted_judged text answers accepted))

  -- version 2 is the netlist's own
  pub netlist_own : in_version version2 (answer_parts a) ≡ (answer_parts a)
  netlist_own = ap (λ (v : ℕ). in_version v (answer_parts a)) (sym (accepted_version text answers accepted)) ∙ own_version (answer_parts a)

-- an answer with the number 0 is the image's length
module _ (version : ℕ) (text before : List ℕ) (r : ℕ) (after : List ℕ) (drawn : Drawn version text before r after) (done : r < number_unit) where
  abbrev a : Answer
  a = drawn.answer

  number_0 : call_number version a (length before) ≡ 0
  number_0 = omega (arith, drawn.packed)

  -- the netlist is accepted, there is such a version, and the first r bytes of the buffer are the image of its parts
  pub drawn_accepted : answer_number a ≡ 0
  unfolding call_number
  drawn_accepted = go (eqb (answer_number a) 0) refl
    where
      go : (t : Bool) → eqb (answer_number a) 0 ≡ t → answer_number a ≡ 0
      go true e = eqb-true (answer_number a) 0 e
      go false e = rw e at number_0

  pub drawn_version : between version1 version2 version ≡ true
  drawn_version = go (between version1 version2 version) refl
    where
      go : (t : Bool) → between version1 version2 version ≡ t → between version1 version2 version ≡ true
      go true e = e
      go false e = absurd (omega (arith, number_0, version_2 version a (length before) drawn_accepted e))

  writer_0 : answer_for (in_version version (answer_parts a)) (length before) ≡ 0
  unfolding call_number
  writer_0 = rw drawn_accepted at number_0

  count_is : call_count version a (length before) ≡ length (image_of (in_version version (answer_parts a)))
  unfolding call_count
  count_is = rw (drawn_accepted, writer_0)

  pub drawn_image : take r after ≡ image_of (in_version version (answer_parts a))
  drawn_image =
      let image = image_of (in_version version (answer_parts a)) in
      let long : r ≡ length image = omega (arith, drawn.packed, number_0, count_is) in
      let bytes : buffer_beside (call_number version a (length before)) (in_version version (answer_parts a)) before ≡ image ++ drop (length image) before = rw number_0 in
      ap (λ (n : ℕ). take n after) long ∙ ap (λ (l : List ℕ). take (length image) l) (drawn.buffer ∙ bytes) ∙ take-append_seam image (drop (length image) before)
