-- The writer's three answers, each from what the code has found, and what the number 0 says of the parts. Assumes nothing.
use mathlib.Core.Path.{◌≡◌, refl, ◌∙◌, ap}
use mathlib.Core.Bool.{Bool, true, false, cond}
use mathlib.Core.List.{List, ◌++◌}
use Prim.Native.Nat.{ℕ, ◌+◌, ◌*◌, ◌≤◌, ◌<◌}
use native.Mathlib.Omega.{arith}
use lib.Dec.{eqb, leb}
use lib.ListN.{length, drop}
use borrow.Author.Tests.{eqb-true, ne_eqb, le-leb, lt-leb}
use Rattle.units.specs.Number.{number_of}
use Rattle.units.specs.declared.number.Number.TheVariants.{Done}
use Rattle.units.proofs.Numbers.{done_only}
use Rattle.image.specs.Format.{element_size, trailer_size}
use Rattle.image.specs.Judged.{judged}
use Rattle.image.specs.declared.parts.Parts.{Parts}
use Rattle.writing.specs.Image.{curves_bytes, image_of}
use Rattle.writing.specs.Writes.{short_buffer, answer_for, result_for, number_in, length_in, length_beside, Writes}
use Rattle.writing.specs.declared.writer.Refusal.{Refusal}
use Rattle.writing.specs.declared.writer.Refusal.TheVariants.{Rules, Short}
use Rattle.std.specs.Prelude.{Result, Ok, Err}
use Rattle.writing.proofs.Overlaying.{image_length}

module _ (parts : Parts) (buffer : List ℕ) where
  -- ---- the answer, by the first thing that stands against the image

  answers-broken : (number_of (judged parts) ≡ 0 → ⊥) → answer_for parts (length buffer) ≡ number_of (judged parts)
  unfolding answer_for
  answers-broken broken = rw (ne_eqb (number_of (judged parts)) 0 broken)

  answers-short : number_of (judged parts) ≡ 0 → length buffer < length (image_of parts) → answer_for parts (length buffer) ≡ short_buffer
  unfolding answer_for
  answers-short held short = rw (held, lt-leb (length (image_of parts)) (length buffer) short)

  pub answers-image : number_of (judged parts) ≡ 0 → length (image_of parts) ≤ length buffer → answer_for parts (length buffer) ≡ 0
  unfolding answer_for
  answers-image held room = rw (held, le-leb (length (image_of parts)) (length buffer) room)

  -- ---- the promise with it

  pub writes-broken : (number_of (judged parts) ≡ 0 → ⊥) → Writes parts buffer (Err (Rules (judged parts))) buffer
  unfolding result_for
  writes-broken broken =
      let no = ne_eqb (number_of (judged parts)) 0 broken in
      record { result = rw no; buffer = rw (answers-broken broken, no) }

  pub writes_short : number_of (judged parts) ≡ 0 → length buffer < element_size * parts.element_count + length (curves_bytes parts) + trailer_size → Writes parts buffer (Err Short) buffer
  unfolding result_for
  writes_short held short =
      let less : length buffer < length (image_of parts) = omega (arith, image_length parts) in
      record { result = rw (held, lt-leb (length (image_of parts)) (length buffer) less); buffer = rw (answers-short held less) }

  pub writes-image : (n : ℕ) (after : List ℕ) → number_of (judged parts) ≡ 0 → length (image_of parts) ≤ length buffer → n ≡ length (image_of parts) → after ≡ image_of parts ++ drop (length (image_of parts)) buffer → Writes parts buffer (Ok n) after
  unfolding result_for
  writes-image n after held room long bytes =
      record { result = rw (long, held, le-leb (length (image_of parts)) (length buffer) room); buffer = bytes ∙ rw (answers-image held room) }

-- ---- a result's number and length are the answer's and the one beside it

pub result_number : (parts : Parts) (room : ℕ) → number_in (result_for parts room) ≡ answer_for parts room
unfolding result_for answer_for
result_number parts room = go (eqb (number_of (judged parts)) 0) (leb (length (image_of parts)) room)
  where
    go : (a b : Bool) → number_in (cond a (cond b (Ok (length (image_of parts))) (Err Short)) (Err (Rules (judged parts)))) ≡ cond a (cond b 0 short_buffer) (number_of (judged parts))
    go true true = refl
    go true false = refl
    go false b = refl

pub result_length : (parts : Parts) (room : ℕ) → length_in (result_for parts room) ≡ length_beside (answer_for parts room) parts
unfolding result_for answer_for
result_length parts room = go (eqb (number_of (judged parts)) 0) (leb (length (image_of parts)) room) refl
  where
    go : (a b : Bool) → eqb (number_of (judged parts)) 0 ≡ a → length_in (cond a (cond b (Ok (length (image_of parts))) (Err Short)) (Err (Rules (judged parts)))) ≡ length_beside (cond a (cond b 0 short_buffer) (number_of (judged parts))) parts
    go true true e = refl
    go true false e = refl
    go false b e = rw e

pub writes_number : {parts : Parts} {before : List ℕ} {r : Result ℕ Refusal} {after : List ℕ} → Writes parts before r after → number_in r ≡ answer_for parts (length before)
writes_number {parts = parts} {before = before} w = ap number_in w.result ∙ result_number parts (length before)

pub writes_length : {parts : Parts} {before : List ℕ} {r : Result ℕ Refusal} {after : List ℕ} → Writes parts before r after → length_in r ≡ length_beside (answer_for parts (length before)) parts
writes_length {parts = parts} {before = before} w = ap length_in w.result ∙ result_length parts (length before)

-- parts that are answered by 0 break no rule
pub answer-judged : (parts : Parts) (room : ℕ) → answer_for parts room ≡ 0 → judged parts ≡ Done
unfolding answer_for
answer-judged parts room e = done_only (judged parts) (go (eqb (number_of (judged parts)) 0) refl)
  where
    go : (t : Bool) → eqb (number_of (judged parts)) 0 ≡ t → number_of (judged parts) ≡ 0
    go true q = eqb-true (number_of (judged parts)) 0 q
    go false q = rw q at e
