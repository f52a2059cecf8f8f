-- How the call's promise is kept: by the reader's answer alone, or by the writer's after it; and a version that is too large for its field is answered as what
-- is kept of it. Assumes nothing.
use mathlib.Core.Path.{◌≡◌, refl, sym, ◌∙◌}
use mathlib.Core.Bool.{Bool, true, false, cond}
use mathlib.Core.List.{List}
use mathlib.Core.Logic.{⊎_elim}
use Rattle.std.specs.Prelude.{Result}
use Prim.Native.Nat.{ℕ, ◌+◌, ◌*◌, ◌≤◌, ◌<◌}
use native.Mathlib.Omega.{arith}
use lib.Dec.{eqb}
use lib.ListN.{length}
use borrow.Author.Tests.{eq-eqb, ne_eqb}
use Rattle.units.specs.Table.{between}
use Rattle.units.proofs.Integers.{decide_n}
use Rattle.image.specs.Parts.{version1, version2, in_version}
use Rattle.image.proofs.Versions.{none_above}
use Rattle.netlist.specs.Answer.{Answer, answer_number, answer_line, answer_parts, Answers}
use Rattle.netlist.specs.Kept.{most_byte, byte}
use Rattle.writing.specs.Writes.{number_in, length_in, buffer_beside, Writes}
use Rattle.writing.specs.declared.writer.Refusal.{Refusal}
use Rattle.writing.proofs.Answers.{writes_number, writes_length}
use Rattle.writing.proofs.Promise.{version_answer}
use Rattle.desk.specs.Drawn.{number_unit, call_number, call_count, Drawn}
use Rattle.desk.proofs.Counts.{line_small}

module _ (version : ℕ) (text before : List ℕ) (a : Answer) (answers : Answers text a) where
  -- a text that is refused leaves the buffer as it was
  pub drawn_refused : {n line r : ℕ} → n ≡ answer_number a → line ≡ answer_line a → (n ≡ 0 → ⊥) → r ≡ n * number_unit + line → Drawn version text before r before
  unfolding call_number call_count
  drawn_refused number named some packed =
      let no = ne_eqb (answer_number a) 0 (λ e. some (number ∙ e)) in
      record {
        answer = a;
        answers = answers;
        packed = packed ∙ rw (number, named, no);
        small = rw no (omega (arith, line_small text answers));
        buffer = rw (no, no);
      }

  -- one that passes is answered as the writer does
  pub drawn_written : answer_number a ≡ 0 → {w : Result ℕ Refusal} {after : List ℕ} {r : ℕ} → Writes (in_version version (answer_parts a)) before w after → length_in w < number_unit → r ≡ number_in w * number_unit + length_in w → Drawn version text before r after
  unfolding call_number call_count
  drawn_written e writes short packed =
      let yes = eq-eqb (answer_number a) 0 e in
      record {
        answer = a;
        answers = answers;
        packed = packed ∙ rw (yes, writes_number writes, writes_length writes);
        small = rw yes (omega (arith, writes_length writes, short));
        buffer = rw yes writes.buffer;
      }

-- ---- versions that are too large for their field

module _ (before : List ℕ) (v : ℕ) (none : between version1 version2 v ≡ false) (a : Answer) where
  -- no version of those that there are not writes anything
  none_number : call_number v a (length before) ≡ cond (eqb (answer_number a) 0) 2 (answer_number a)
  unfolding call_number
  none_number = rw (version_answer v (answer_parts a) (length before) none)

  none_count : call_count v a (length before) ≡ cond (eqb (answer_number a) 0) 0 (answer_line a)
  unfolding call_count
  none_count = rw (version_answer v (answer_parts a) (length before) none)

  none_written : buffer_beside (call_number v a (length before)) (in_version v (answer_parts a)) before ≡ before
  none_written = rw none_number (go (eqb (answer_number a) 0) refl)
    where
      go : (t : Bool) → eqb (answer_number a) 0 ≡ t → buffer_beside (cond t 2 (answer_number a)) (in_version v (answer_parts a)) before ≡ before
      go true e = refl
      go false e = rw e

-- so they are all answered alike
none_alike : (text before : List ℕ) (v u : ℕ) → between version1 version2 v ≡ false → between version1 version2 u ≡ false → {r : ℕ} {after : List ℕ} → Drawn v text before r after → Drawn u text before r after
none_alike text before v u p q x =
    let a = x.answer in
    let number = none_number before v p a ∙ sym (none_number before u q a) in
    let count = none_count before v p a ∙ sym (none_count before u q a) in
    record {
      answer = a;
      answers = x.answers;
      packed = rw (← number, ← count) x.packed;
      small = rw (← count) x.small;
      buffer = x.buffer ∙ none_written before v p a ∙ sym (none_written before u q a);
    }

-- and a version is answered as what is kept of it
pub drawn_kept : (version : ℕ) (text before : List ℕ) {r : ℕ} {after : List ℕ} → Drawn (byte version) text before r after → Drawn version text before r after
drawn_kept version text before x =
    ⊎_elim
    (λ (h : version ≤ most_byte). let e : byte version ≡ version = omega arith in rw e at x)
    (λ (h : most_byte < version). none_alike text before (byte version) version (none_above (byte version) (omega arith)) (none_above version (omega arith)) x)
    (decide_n version most_byte)
