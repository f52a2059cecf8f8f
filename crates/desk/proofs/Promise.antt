-- What the call's promise comes to: one outcome for a text and a buffer; number and count read off the answer; a buffer that is always enough.
-- Assumes nothing.
use mathlib.Core.Path.{◌≡◌, refl, sym, ◌∙◌, ap}
use mathlib.Core.Bool.{Bool, true, false, cond}
use mathlib.Core.List.{List}
use Prim.Native.Nat.{ℕ, ◌+◌, ◌*◌, ◌/◌, ◌%◌, ◌≤◌}
use native.Mathlib.Omega.{arith}
use lib.Dec.{eqb}
use lib.ListN.{length}
use borrow.Author.Tests.{eqb-true}
use Rattle.units.specs.Table.{between}
use Rattle.image.specs.Format.{longest}
use Rattle.image.specs.Parts.{version1, version2, in_version}
use Rattle.image.proofs.Versions.{version_passes}
use Rattle.netlist.specs.Answer.{Answer, answer_number, answer_parts, Answers}
use Rattle.netlist.proofs.Promise.{answer_once, accepted_judged}
use Rattle.writing.specs.Writes.{answer_for, buffer_beside}
use Rattle.writing.proofs.Longest.{answers_enough}
use Rattle.writing.proofs.Promise.{version_answer}
use Rattle.desk.specs.Drawn.{number_unit, call_number, call_count, Drawn}

-- the same answer, and the same bytes
pub drawn_once : (version : ℕ) (text before : List ℕ) {r s : ℕ} {after later : List ℕ} → Drawn version text before r after → Drawn version text before s later → (r ≡ s) × (after ≡ later)
drawn_once version text before x y =
    let room = length before in
    let same = answer_once text x.answers y.answers in (
      x.packed ∙ ap (λ (a : Answer). call_number version a room * number_unit + call_count version a room) same ∙ sym y.packed,
      x.buffer ∙ ap (λ (a : Answer). buffer_beside (call_number version a room) (in_version version (answer_parts a)) before) same ∙ sym y.buffer,
    )

-- the header's two macros
pub drawn_number_lem : (version : ℕ) (text before : List ℕ) {r : ℕ} {after : List ℕ} (x : Drawn version text before r after) → r / number_unit ≡ call_number version x.answer (length before)
drawn_number_lem version text before x = rw x.packed (omega (arith, x.small))

pub drawn_count : (version : ℕ) (text before : List ℕ) {r : ℕ} {after : List ℕ} (x : Drawn version text before r after) → r % number_unit ≡ call_count version x.answer (length before)
drawn_count version text before x = rw x.packed (omega (arith, x.small))

-- with so many bytes, and in a version that there is, the number is the reader's
pub room_enough : (version : ℕ) (text : List ℕ) (a : Answer) (room : ℕ) → Answers text a → between version1 version2 version ≡ true → longest ≤ room → call_number version a room ≡ answer_number a
unfolding call_number
room_enough version text a room answers there h = go (eqb (answer_number a) 0) refl
  where
    go : (t : Bool) → eqb (answer_number a) 0 ≡ t → cond t (answer_for (in_version version (answer_parts a)) room) (answer_number a) ≡ answer_number a
    go true e =
        let passed = eqb-true (answer_number a) 0 e in
        answers_enough (in_version version (answer_parts a)) room (version_passes version (answer_parts a) there (accepted_judged text answers passed)) h ∙ sym passed
    go false e = refl

-- in one that there is not, a text that the reader lets pass is refused by 2
pub version_2 : (version : ℕ) (a : Answer) (room : ℕ) → answer_number a ≡ 0 → between version1 version2 version ≡ false → call_number version a room ≡ 2
unfolding call_number
version_2 version a room passed none = rw (passed, version_answer version (answer_parts a) room none)
