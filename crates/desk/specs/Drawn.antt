-- What the call answers for a text, a version and a lent buffer, and what stands in the buffer afterwards. Assumes nothing.
use Rattle.std.specs.Prelude.{◌≡◌, cond, List, ℕ, ◌+◌, ◌*◌, ◌<◌, eqb, length}
use Rattle.netlist.specs.Answer.{Answer, answer_number, answer_line, answer_parts, Answers}
use Rattle.image.specs.Parts.{in_version}
use Rattle.writing.specs.Writes.{answer_for, length_beside, buffer_beside}

-- number and count come as one: number × 2^32 + count
abbrev pub number_unit : ℕ
number_unit = 4294967296

-- the number is the reader's; where that is 0, it is the writer's for the parts in that version and a buffer of so many bytes
unfoldable pub call_number : (version : ℕ) → Answer → (room : ℕ) → ℕ
call_number version a room = cond (eqb (answer_number a) 0) (answer_for (in_version version (answer_parts a)) room) (answer_number a)

-- the count is the line that the reader names, or 0; where its number is 0, the image's length beside the writer's 0, and 0 beside its other numbers
unfoldable pub call_count : (version : ℕ) → Answer → (room : ℕ) → ℕ
call_count version a room = cond (eqb (answer_number a) 0) (length_beside (answer_for (in_version version (answer_parts a)) room) (in_version version (answer_parts a))) (answer_line a)

-- the promise: of the answer for the text, number and count as one, which can be taken apart again, and the buffer with the image in front beside 0, as it was beside any other number
pub record Drawn (version : ℕ) (text before : List ℕ) (r : ℕ) (after : List ℕ) : Type 0 where
  pub answer : Answer
  pub answers : Answers text answer
  pub packed : r ≡ call_number version answer (length before) * number_unit + call_count version answer (length before)
  pub small : call_count version answer (length before) < number_unit
  pub buffer : after ≡ buffer_beside (call_number version answer (length before)) (in_version version (answer_parts answer)) before
