-- What the reader answers for a text: the parts, or the number of a refusal with its line. Assumes nothing.
use Rattle.std.specs.Prelude.{◌≡◌, cond, Some, None, Result, Ok, Err, List, [], ◌∷◌, ℕ, ◌+◌, ◌≤◌, ◌<◌, eqb, length}
use Rattle.units.specs.Number as numbers
use Rattle.units.specs.declared.number.Number.{Number}
use Rattle.console.specs.Words.{lines}
use Rattle.image.specs.Judged.{judged}
use Rattle.image.specs.Parts.{no_parts}
use Rattle.image.specs.declared.parts.Parts.{Parts}
use Rattle.netlist.specs.Draft.{blank_draft, complete, fault_of, with_line}
use Rattle.netlist.specs.Text.{longest_text, SaysLine}
use Rattle.netlist.specs.declared.draft.Draft.{Draft}
use Rattle.netlist.specs.declared.draft.Fault.{Fault}
use Rattle.netlist.specs.declared.draft.Fault.TheVariants as fault
use Rattle.netlist.specs.declared.said.Line.{Line}
use Rattle.netlist.specs.declared.reader.Refusal.{Refusal}
use Rattle.netlist.specs.declared.reader.Refusal.TheVariants.{Rules, Grammar, Value}

-- ---- refusals

-- document 02's numbers: 14 for text outside the grammar, 15 for a value; those of the rules are the image's
abbrev pub number_of : Refusal → ℕ
number_of (Rules n) = numbers.number_of n
number_of (Grammar line) = 14
number_of (Value line) = 15

-- the line that it names, counted from 1; 0 for none
abbrev pub line_of : Refusal → ℕ
line_of (Rules n) = 0
line_of (Grammar line) = line
line_of (Value line) = line

-- a line is refused by its fault
abbrev pub refusal_of : Fault → ℕ → Refusal
refusal_of fault.Grammar line = Grammar line
refusal_of fault.Value line = Value line

-- ---- answers: parts, or why there are none

abbrev pub Answer : Type 0
Answer = Result Parts Refusal

-- its number, and the line that it names: 0 beside parts
abbrev pub answer_number : Answer → ℕ
answer_number (Ok parts) = 0
answer_number (Err refusal) = number_of refusal

abbrev pub answer_line : Answer → ℕ
answer_line (Ok parts) = 0
answer_line (Err refusal) = line_of refusal

-- its parts: zeros beside a refusal
abbrev pub answer_parts : Answer → Parts
answer_parts (Ok parts) = parts
answer_parts (Err refusal) = no_parts

-- the parts are tested as an image's are, and handed back if they pass
abbrev pub by_rules : Number → Parts → Answer
by_rules n parts = cond (eqb (numbers.number_of n) 0) (Ok parts) (Err (Rules n))

abbrev pub judged_answer : Parts → Answer
judged_answer parts = by_rules (judged parts) parts

-- after the last line: a missing setting is a fault on the line after it
unfoldable pub at_end : ℕ → Draft → Answer
at_end n d = cond (complete d) (judged_answer d.parts) (Err (Grammar n))

-- the answer for lines of which the first is line n, after lines that made a draft: the first faulty line decides
pub data Answered : List (List ℕ) → ℕ → Draft → Answer → Type 0 where
  ended : {n : ℕ} {d : Draft} → Answered [] n d (at_end n d)
  unread : {here : List ℕ} {others : List (List ℕ)} {n : ℕ} {d : Draft} → ((x : Line) → SaysLine here x → ⊥) → Answered (here ∷ others) n d (Err (Grammar n))
  repeated : {here : List ℕ} {others : List (List ℕ)} {n : ℕ} {d : Draft} (x : Line) → SaysLine here x → fault_of d x ≡ Some fault.Grammar → Answered (here ∷ others) n d (Err (Grammar n))
  beyond : {here : List ℕ} {others : List (List ℕ)} {n : ℕ} {d : Draft} (x : Line) → SaysLine here x → fault_of d x ≡ Some fault.Value → Answered (here ∷ others) n d (Err (Value n))
  passed : {here : List ℕ} {others : List (List ℕ)} {n : ℕ} {d : Draft} {a : Answer} (x : Line) → SaysLine here x → fault_of d x ≡ None → Answered others (n + 1) (with_line d x) a → Answered (here ∷ others) n d a

-- the answer for a text; one that is too long is outside the grammar, and no line of it is named
pub data Answers (text : List ℕ) : Answer → Type 0 where
  long : longest_text < length text → Answers text (Err (Grammar 0))
  read : {a : Answer} → length text ≤ longest_text → Answered (lines text) 1 blank_draft a → Answers text a
