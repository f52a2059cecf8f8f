-- What the reader's promise comes to: a text has one reading and one answer; 14 is given for no text of the grammar, and any other text gets it unless a
-- value on an earlier line is refused before; what is read is in the grammar; what is accepted keeps every rule, and is of version 2. Assumes nothing.
use mathlib.Core.Path.{◌≡◌, refl, sym, ◌∙◌, ap}
use mathlib.Core.Bool.{Bool, true, false, cond}
use Rattle.std.proofs.Common.{Option, Some, None, Ok, Err}
use mathlib.Core.List.{List, []}
use mathlib.Core.Logic.{◌⊎◌, inl, inr}
use Prim.Native.Nat.{ℕ, suc, ◌+◌, ◌-◌, ◌≤◌}
use native.Mathlib.Nat.{sub_self}
use native.Mathlib.Omega.{arith}
use lib.Dec.{eqb}
use lib.ListN.{get_or}
use borrow.Author.Tests.{eq-eqb, eqb-true, eqb-false}
use Rattle.units.specs.Number as numbers
use Rattle.units.specs.declared.number.Number.TheVariants.{Done}
use Rattle.units.proofs.Numbers.{number_small, done_only}
use Rattle.console.specs.Words.{first, lines}
use Rattle.console.specs.declared.words.Run.TheVariants as run
use Rattle.image.specs.Judged.{judged}
use Rattle.image.specs.Parts.{version2, in_version}
use Rattle.image.specs.declared.parts.Parts.{Parts}
use Rattle.netlist.specs.Draft.{with_element, with_curve, with_setting, blank_draft, said, complete, again, fault_of, with_line}
use Rattle.netlist.specs.Text.{SaysLine, Netlist, end, line, InGrammar}
use Rattle.netlist.specs.Answer.{Answer, number_of, answer_number, answer_line, answer_parts, judged_answer, at_end, Answered, ended, unread, repeated, beyond, passed, Answers, long, read}
use Rattle.netlist.specs.declared.draft.Draft.{Draft}
use Rattle.netlist.specs.declared.draft.Fault.{Fault}
use Rattle.netlist.specs.declared.draft.Fault.TheVariants.{Grammar, Value}
use Rattle.netlist.specs.declared.said.Field.TheVariants.{Drives, Output, Rate}
use Rattle.netlist.specs.declared.said.Line.{Line}
use Rattle.netlist.specs.declared.said.Line.TheVariants as saying
use Rattle.netlist.specs.declared.reader.Refusal.{Refusal}
use Rattle.netlist.specs.declared.reader.Refusal.TheVariants as refusal
use Rattle.netlist.proofs.LineLaws.{says_once}

-- ---- one reading

-- line by line
pub line_once : (here : List ℕ) (x y : Line) → SaysLine here x → SaysLine here y → x ≡ y
line_once here = says_once (first run.Said here)

-- the same fault, and the same draft after it
same_fault : (here : List ℕ) (d : Draft) (x y : Line) → SaysLine here x → SaysLine here y → fault_of d x ≡ fault_of d y
same_fault here d x y a b = ap (λ (x : Line). fault_of d x) (line_once here x y a b)

same_draft : (here : List ℕ) (d : Draft) (x y : Line) → SaysLine here x → SaysLine here y → with_line d x ≡ with_line d y
same_draft here d x y a b = ap (λ (x : Line). with_line d x) (line_once here x y a b)

-- faults that differ
apart : {A : Type 0} {f : Option Fault} → f ≡ Some Grammar → f ≡ None → A
apart e g = let z : ◌≡◌ {A = ℕ} 0 1 = cc in absurd (omega arith)

apart_value : {A : Type 0} {f : Option Fault} → f ≡ Some Grammar → f ≡ Some Value → A
apart_value e g = let z : ◌≡◌ {A = ℕ} 0 1 = cc in absurd (omega arith)

apart_from_value : {A : Type 0} {f : Option Fault} → f ≡ Some Value → f ≡ None → A
apart_from_value e g = let z : ◌≡◌ {A = ℕ} 0 1 = cc in absurd (omega arith)

-- two readings of a text make the same parts
netlist_once : {text : List (List ℕ)} {d e a b : Draft} → d ≡ e → Netlist text d a → Netlist text e b → a ≡ b
netlist_once q (end s) (end t) = q
netlist_once q (line {here = here} {d = d} x a h rest) (line y b k rest') = netlist_once (same_draft here d x y a b ∙ ap (λ (f : Draft). with_line f y) q) rest rest'

pub text_once : (text : List ℕ) {a b : Draft} → InGrammar text a → InGrammar text b → a ≡ b
text_once text a b = netlist_once refl a.reads b.reads

-- ---- one answer

answered_once : {text : List (List ℕ)} {n : ℕ} {d : Draft} {a b : Answer} → Answered text n d a → Answered text n d b → a ≡ b
answered_once ended ended = refl
answered_once (unread h) (unread k) = refl
answered_once (unread h) (repeated x s k) = refl
answered_once (unread h) (beyond x s k) = absurd (h x s)
answered_once (unread h) (passed x s k rest) = absurd (h x s)
answered_once (repeated x s k) (unread h) = refl
answered_once (repeated x s k) (repeated y t l) = refl
answered_once (repeated {here = here} {d = d} x s k) (beyond y t l) = apart_value k (same_fault here d x y s t ∙ l)
answered_once (repeated {here = here} {d = d} x s k) (passed y t l rest) = apart k (same_fault here d x y s t ∙ l)
answered_once (beyond x s k) (unread h) = absurd (h x s)
answered_once (beyond {here = here} {d = d} x s k) (repeated y t l) = apart_value l (same_fault here d y x t s ∙ k)
answered_once (beyond x s k) (beyond y t l) = refl
answered_once (beyond {here = here} {d = d} x s k) (passed y t l rest) = apart_from_value k (same_fault here d x y s t ∙ l)
answered_once (passed x s k rest) (unread h) = absurd (h x s)
answered_once (passed {here = here} {d = d} x s k rest) (repeated y t l) = apart l (same_fault here d y x t s ∙ k)
answered_once (passed {here = here} {d = d} x s k rest) (beyond y t l) = apart_from_value l (same_fault here d y x t s ∙ k)
answered_once (passed {here = here} {d = d} x s k rest) (passed y t l rest') = answered_once (rw (same_draft here d x y s t) at rest) rest'

pub answer_once : (text : List ℕ) {a b : Answer} → Answers text a → Answers text b → a ≡ b
answer_once text (long h) (long k) = refl
answer_once text (long h) (read k rest) = absurd (omega arith)
answer_once text (read h rest) (long k) = absurd (omega arith)
answer_once text (read h rest) (read k rest') = answered_once rest rest'

-- ---- the grammar and the answers

-- at the end of lines that said all settings, and that did not
end_complete : (n : ℕ) (d : Draft) → complete d ≡ true → at_end n d ≡ judged_answer d.parts
unfolding at_end
end_complete n d e = rw e

end_missing : (n : ℕ) (d : Draft) → complete d ≡ false → at_end n d ≡ Err (refusal.Grammar n)
unfolding at_end
end_missing n d e = rw e

judged_number : (parts : Parts) → answer_number (judged_answer parts) ≡ numbers.number_of (judged parts)
judged_number parts = go (eqb (numbers.number_of (judged parts)) 0) refl
  where
    go : (t : Bool) → eqb (numbers.number_of (judged parts)) 0 ≡ t → answer_number (cond t (Ok parts) (Err (refusal.Rules (judged parts)))) ≡ numbers.number_of (judged parts)
    go true e = omega (arith, eqb-true (numbers.number_of (judged parts)) 0 e)
    go false e = refl

-- a text of the grammar is judged by the rules, unless a value is refused
netlist_judged : {text : List (List ℕ)} {n : ℕ} {d whole : Draft} {a : Answer} → Netlist text d whole → Answered text n d a → (a ≡ judged_answer whole.parts) ⊎ (answer_number a ≡ 15)
netlist_judged (end {d = d} e) (ended {n = n}) = inl (end_complete n d e)
netlist_judged (line x s h rest) (unread k) = absurd (k x s)
netlist_judged (line {here = here} {d = d} x s h rest) (repeated y t k) = absurd (h (same_fault here d x y s t ∙ k))
netlist_judged (line x s h rest) (beyond y t k) = inr refl
netlist_judged (line {here = here} {d = d} x s h rest) (passed y t k rest') = netlist_judged rest (rw (same_draft here d y x t s) at rest')

pub grammar_judged : (text : List ℕ) {whole : Draft} {a : Answer} → InGrammar text whole → Answers text a → (a ≡ judged_answer whole.parts) ⊎ (answer_number a ≡ 15)
grammar_judged text g (long h) = absurd (omega (arith, g.short))
grammar_judged text g (read h rest) = netlist_judged g.reads rest

-- so 14 is given for no text of the grammar
pub grammar_read : (text : List ℕ) {whole : Draft} {a : Answer} → InGrammar text whole → Answers text a → answer_number a ≡ 14 → ⊥
grammar_read text {whole = whole} {a = a} g h e = go (grammar_judged text g h)
  where
    go : (a ≡ judged_answer whole.parts) ⊎ (answer_number a ≡ 15) → ⊥
    go (inl q) = omega (arith, e, ap (λ (b : Answer). answer_number b) q, judged_number whole.parts, number_small (judged whole.parts))
    go (inr q) = omega (arith, e, q)

-- there is a reading
pub record Readable (text : List ℕ) : Type 0 where
  pub whole : Draft
  pub reads : InGrammar text whole

record Onward (text : List (List ℕ)) (d : Draft) : Type 0 where
  pub whole : Draft
  pub reads : Netlist text d whole

netlist_of : {text : List (List ℕ)} {n : ℕ} {d : Draft} {a : Answer} → Answered text n d a → (answer_number a ≡ 14 → ⊥) → (answer_number a ≡ 15 → ⊥) → Onward text d
netlist_of (ended {n = n} {d = d}) p q = go (complete d) refl
  where
    go : (t : Bool) → complete d ≡ t → Onward [] d
    go true e = record { whole = d; reads = end e }
    go false e = absurd (p (ap (λ (b : Answer). answer_number b) (end_missing n d e)))
netlist_of (unread h) p q = absurd (p refl)
netlist_of (repeated x s k) p q = absurd (p refl)
netlist_of (beyond x s k) p q = absurd (q refl)
netlist_of (passed x s k rest) p q =
    let on = netlist_of rest p q in
    record { whole = on.whole; reads = line x s (λ g. apart g k) on.reads }

-- a text that is answered by anything else than 14 and 15 is in the grammar
pub read_in_grammar : (text : List ℕ) {a : Answer} → Answers text a → (answer_number a ≡ 14 → ⊥) → (answer_number a ≡ 15 → ⊥) → Readable text
read_in_grammar text (long h) p q = absurd (p refl)
read_in_grammar text (read h rest) p q =
    let on = netlist_of rest p q in
    record { whole = on.whole; reads = record { short = h; reads = on.reads } }

-- ---- 15 names a line with such a value

-- only a value outside the limits is a fault of that kind
fault_value : (d : Draft) (l : Line) → fault_of d l ≡ Some Value → l ≡ saying.Outside
unfolding fault_of
fault_value d saying.Broken e = apart_value refl e
fault_value d saying.Empty e = apart_from_value e refl
fault_value d saying.Outside e = refl
fault_value d (saying.Part x) e = apart_from_value e refl
fault_value d (saying.Setting field n) e = go (said d field) e
  where
    go : (t : Bool) → again t ≡ Some Value → saying.Setting field n ≡ saying.Outside
    go true e = apart_value refl e
    go false e = apart_from_value e refl
fault_value d (saying.Curve c) e = apart_from_value e refl

-- line number k of a text, counted from 0, says so
pub record OutsideAt (text : List (List ℕ)) (k : ℕ) : Type 0 where
  pub said : Line
  pub says : SaysLine (get_or text k []) said
  pub outside : said ≡ saying.Outside

outside_at : {text : List (List ℕ)} {n : ℕ} {d : Draft} {a : Answer} → Answered text n d a → answer_number a ≡ 15 → (n ≤ answer_line a) × OutsideAt text (answer_line a - n)
outside_at (ended {n = n} {d = d}) e = go (complete d) refl
  where
    go : (t : Bool) → complete d ≡ t → (n ≤ answer_line (at_end n d)) × OutsideAt [] (answer_line (at_end n d) - n)
    go true q = absurd (omega (arith, e, ap (λ (b : Answer). answer_number b) (end_complete n d q), judged_number d.parts, number_small (judged d.parts)))
    go false q = absurd (omega (arith, e, ap (λ (b : Answer). answer_number b) (end_missing n d q)))
outside_at (unread h) e = absurd (omega (arith, e))
outside_at (repeated x s k) e = absurd (omega (arith, e))
outside_at (beyond {n = n} {d = d} x s k) e = (omega arith, rw (sub_self n) (record { said = x; says = s; outside = fault_value d x k }))
outside_at (passed {n = n} {a = a} x s k rest) e =
    let later = outside_at rest e in
    let on : answer_line a - n ≡ suc (answer_line a - (n + 1)) = omega arith in
    (omega arith, rw on (record { said = later.1.said; says = later.1.says; outside = later.1.outside }))

-- the line that 15 names, counted from 1
pub value_outside : (text : List ℕ) {a : Answer} → Answers text a → answer_number a ≡ 15 → (1 ≤ answer_line a) × OutsideAt (lines text) (answer_line a - 1)
value_outside text (long h) e = absurd (omega (arith, e))
value_outside text (read h rest) e = outside_at rest e

-- so of texts with no such line, 14 is given exactly for those that have no reading
pub outside_14 : (text : List ℕ) {a : Answer} → Answers text a → ((k : ℕ) → OutsideAt (lines text) k → ⊥) → (Readable text → ⊥) → answer_number a ≡ 14
outside_14 text {a = a} h within unreadable = go (eqb (answer_number a) 14) refl
  where
    go : (t : Bool) → eqb (answer_number a) 14 ≡ t → answer_number a ≡ 14
    go true e = eqb-true (answer_number a) 14 e
    go false e = absurd (unreadable (read_in_grammar text h (eqb-false (answer_number a) 14 e) (λ q. within (answer_line a - 1) (value_outside text h q).1)))

-- ---- what is accepted

judged_accepted : (parts : Parts) → answer_number (judged_answer parts) ≡ 0 → judged (answer_parts (judged_answer parts)) ≡ Done
judged_accepted parts e =
    let no = sym (judged_number parts) ∙ e in
    rw (eq-eqb (numbers.number_of (judged parts)) 0 no) (done_only (judged parts) no)

answered_accepted : {text : List (List ℕ)} {n : ℕ} {d : Draft} {a : Answer} → Answered text n d a → answer_number a ≡ 0 → judged (answer_parts a) ≡ Done
answered_accepted (ended {n = n} {d = d}) e = go (complete d) refl
  where
    go : (t : Bool) → complete d ≡ t → judged (answer_parts (at_end n d)) ≡ Done
    go true q = rw (end_complete n d q) (judged_accepted d.parts (rw (end_complete n d q) at e))
    go false q = absurd (omega (arith, rw (end_missing n d q) at e))
answered_accepted (unread h) e = absurd (omega (arith, e))
answered_accepted (repeated x s k) e = absurd (omega (arith, e))
answered_accepted (beyond x s k) e = absurd (omega (arith, e))
answered_accepted (passed x s k rest) e = answered_accepted rest e

-- parts that come with 0 keep every rule
pub accepted_judged : (text : List ℕ) {a : Answer} → Answers text a → answer_number a ≡ 0 → judged (answer_parts a) ≡ Done
accepted_judged text (long h) e = absurd (omega (arith, e))
accepted_judged text (read h rest) e = answered_accepted rest e

-- ---- what is refused

-- a refusal has a number that is not 0
abbrev Numbered : Answer → Type 0
Numbered (Ok parts) = Unit {0}
Numbered (Err r) = number_of r ≡ 0 → ⊥

judged_numbered : (parts : Parts) → Numbered (judged_answer parts)
judged_numbered parts = go (eqb (numbers.number_of (judged parts)) 0) refl
  where
    go : (t : Bool) → eqb (numbers.number_of (judged parts)) 0 ≡ t → Numbered (cond t (Ok parts) (Err (refusal.Rules (judged parts))))
    go true e = tt
    go false e = eqb-false (numbers.number_of (judged parts)) 0 e

answered_numbered : {text : List (List ℕ)} {n : ℕ} {d : Draft} {a : Answer} → Answered text n d a → Numbered a
answered_numbered (ended {n = n} {d = d}) = go (complete d) refl
  where
    go : (t : Bool) → complete d ≡ t → Numbered (at_end n d)
    go true q = rw (end_complete n d q) (judged_numbered d.parts)
    go false q = rw (end_missing n d q) (λ e. omega (arith, e))
answered_numbered (unread h) = λ e. omega (arith, e)
answered_numbered (repeated x s k) = λ e. omega (arith, e)
answered_numbered (beyond x s k) = λ e. omega (arith, e)
answered_numbered (passed x s k rest) = answered_numbered rest

answers_numbered : (text : List ℕ) {a : Answer} → Answers text a → Numbered a
answers_numbered text (long h) = λ e. omega (arith, e)
answers_numbered text (read h rest) = answered_numbered rest

pub refused_numbered : (text : List ℕ) {r : Refusal} → Answers text (Err r) → number_of r ≡ 0 → ⊥
refused_numbered text answers = answers_numbered text answers

-- ---- the version

-- no line changes it
line_version : (d : Draft) (l : Line) → (with_line d l).parts.version ≡ d.parts.version
unfolding with_line with_element with_setting with_curve
line_version d saying.Broken = refl
line_version d saying.Empty = refl
line_version d saying.Outside = refl
line_version d (saying.Part e) = refl
line_version d (saying.Setting Drives n) = refl
line_version d (saying.Setting Output n) = refl
line_version d (saying.Setting Rate n) = refl
line_version d (saying.Curve c) = refl

judged_version : (parts : Parts) → answer_number (judged_answer parts) ≡ 0 → (answer_parts (judged_answer parts)).version ≡ parts.version
judged_version parts e = rw (eq-eqb (numbers.number_of (judged parts)) 0 (sym (judged_number parts) ∙ e))

answered_version : {text : List (List ℕ)} {n : ℕ} {d : Draft} {a : Answer} → Answered text n d a → answer_number a ≡ 0 → (answer_parts a).version ≡ d.parts.version
answered_version (ended {n = n} {d = d}) e = go (complete d) refl
  where
    go : (t : Bool) → complete d ≡ t → (answer_parts (at_end n d)).version ≡ d.parts.version
    go true q = rw (end_complete n d q) (judged_version d.parts (rw (end_complete n d q) at e))
    go false q = absurd (omega (arith, rw (end_missing n d q) at e))
answered_version (unread h) e = absurd (omega (arith, e))
answered_version (repeated x s k) e = absurd (omega (arith, e))
answered_version (beyond x s k) e = absurd (omega (arith, e))
answered_version (passed {d = d} x s k rest) e = answered_version rest e ∙ line_version d x

-- parts that come with 0 are of version 2
pub accepted_version : (text : List ℕ) {a : Answer} → Answers text a → answer_number a ≡ 0 → (answer_parts a).version ≡ version2
unfolding blank_draft in_version
accepted_version text (long h) e = absurd (omega (arith, e))
accepted_version text (read h rest) e = answered_version rest e
