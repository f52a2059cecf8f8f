-- What the writer answers, and what stands in the lent buffer afterwards. Assumes nothing.
use Rattle.std.specs.Prelude.{◌≡◌, cond, List, ◌++◌, ℕ, eqb, leb, length, drop, Result, Ok, Err}
use Rattle.units.specs.Number.{number_of}
use Rattle.image.specs.Judged.{judged}
use Rattle.image.specs.declared.parts.Parts.{Parts}
use Rattle.writing.specs.Image.{image_of}
use Rattle.writing.specs.declared.writer.Refusal.{Refusal}
use Rattle.writing.specs.declared.writer.Refusal.TheVariants.{Rules, Short}

-- document 02's number for a buffer that is shorter than the image
abbrev pub short_buffer : ℕ
short_buffer = 16

-- the answer for parts and a buffer of so many bytes: the number of the first rule that the parts break, as an image's, then 16, then 0
unfoldable pub answer_for : Parts → ℕ → ℕ
answer_for parts room = cond (eqb (number_of (judged parts)) 0) (cond (leb (length (image_of parts)) room) 0 short_buffer) (number_of (judged parts))

-- the same as a result: the image's length, or what stands against it
unfoldable pub result_for : Parts → ℕ → Result ℕ Refusal
result_for parts room = cond (eqb (number_of (judged parts)) 0) (cond (leb (length (image_of parts)) room) (Ok (length (image_of parts))) (Err Short)) (Err (Rules (judged parts)))

-- document 02's number for what stands against an image; the number and the length that a result comes to
abbrev pub refusal_number : Refusal → ℕ
refusal_number (Rules n) = number_of n
refusal_number Short = short_buffer

abbrev pub number_in : Result ℕ Refusal → ℕ
number_in (Ok n) = 0
number_in (Err refusal) = refusal_number refusal

abbrev pub length_in : Result ℕ Refusal → ℕ
length_in (Ok n) = n
length_in (Err refusal) = 0

-- beside 0 the image's length, and the image in front of what the buffer had from there on; beside a refusal no length, and the buffer as it was
abbrev pub length_beside : (number : ℕ) → Parts → ℕ
length_beside number parts = cond (eqb number 0) (length (image_of parts)) 0

abbrev pub buffer_beside : (number : ℕ) → Parts → List ℕ → List ℕ
buffer_beside number parts buffer = cond (eqb number 0) (image_of parts ++ drop (length (image_of parts)) buffer) buffer

-- the writer's promise
pub record Writes (parts : Parts) (before : List ℕ) (r : Result ℕ Refusal) (after : List ℕ) : Type 0 where
  pub result : r ≡ result_for parts (length before)
  pub buffer : after ≡ buffer_beside (answer_for parts (length before)) parts before
