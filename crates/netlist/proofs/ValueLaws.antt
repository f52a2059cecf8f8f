-- No element that a text tells of has a value above the greatest of its field: each value is a stage, or a diode's 0. Assumes nothing.
use mathlib.Core.Bool.{Bool, true, false, cond}
use Rattle.std.proofs.Common.{Ok, Err}
use mathlib.Core.List.{List}
use Prim.Native.Nat.{ℕ, ◌≤◌}
use native.Mathlib.Omega.{arith}
use lib.Dec.{eqb}
use lib.ListN.{length, get_or}
use Rattle.units.specs.Number as numbers
use Rattle.console.specs.Number.{worth_at}
use Rattle.console.specs.Words.{first}
use Rattle.console.specs.declared.words.Run.TheVariants as run
use Rattle.network.specs.Kind.{diode_kind, number_of}
use Rattle.network.specs.declared.kind.Kind.{Kind}
use Rattle.network.specs.declared.kind.Kind.TheVariants as kinds
use Rattle.image.specs.Judged.{judged}
use Rattle.image.specs.Parts.{no_element, no_parts, in_version}
use Rattle.image.specs.declared.parts.Element.{Element}
use Rattle.image.specs.declared.parts.Parts.{Parts}
use Rattle.ohms.specs.Grammar.{most_open}
use Rattle.std.specs.Prelude.{Some, None}
use Rattle.ohms.specs.Worth.{Worth, stage}
use Rattle.ohms.proofs.WithinLaws.{Bounded, stage_bounded, sum_bounded}
use Rattle.netlist.specs.Answer.{Answer, answer_parts, at_end, Answered, ended, unread, repeated, beyond, passed, Answers, long, read}
use Rattle.netlist.specs.Draft.{with_element, with_curve, with_setting, blank_draft, complete, with_line}
use Rattle.netlist.specs.Kept.{most_word}
use Rattle.netlist.specs.Line.{opener_of, value_place, element_line, plain_line, SaysBy}
use Rattle.netlist.specs.declared.draft.Draft.{Draft}
use Rattle.netlist.specs.declared.line.Opener.{Opener}
use Rattle.netlist.specs.declared.line.Opener.TheVariants.{Empty, Resistor, Plain, Setting, Curves, Other}
use Rattle.netlist.specs.declared.said.Field.TheVariants.{Drives, Output, Rate}
use Rattle.netlist.specs.declared.said.Line.{Line}
use Rattle.netlist.specs.declared.said.Line.TheVariants as line
use Rattle.netlist.specs.declared.reader.Refusal.TheVariants.{Rules, Grammar}
use Rattle.netlist.proofs.KeptCurves.{none-there, store-each}

-- each place of the elements has a value that its field holds
abbrev pub ValuesFit : Parts → Type 0
ValuesFit parts = (j : ℕ) → (get_or parts.elements j no_element).value ≤ most_word

-- where there is no element
none_fit : ValuesFit no_parts
unfolding no_parts
none_fit j = rw (none-there 32 j no_element) (omega arith)

-- before the first line
blank_fit : ValuesFit blank_draft.parts
unfolding blank_draft in_version
blank_fit = none_fit

-- ---- a line more

module _ (d : Draft) (each : ValuesFit d.parts) where
  -- an element with such a value
  part_fits : (e : Element) → e.value ≤ most_word → ValuesFit (with_line d (line.Part e)).parts
  unfolding with_line with_element
  part_fits e h = store-each (λ (e : Element). e.value ≤ most_word) d.parts.elements d.parts.element_count e no_element h each

  -- an element by what its value comes to; nothing is told of one outside the limits
  element_fits_lem : (kind : Kind) (curve : ℕ) (s : List ℕ) (w : Worth) → Bounded w → ValuesFit (with_line d (element_line kind curve s w)).parts
  unfolding with_line
  element_fits_lem kind curve s (Some v) b = part_fits _ b
  element_fits_lem kind curve s None b = each

  -- an element with a plain number
  plain_fits : (kind : Kind) (s : List ℕ) → ValuesFit (with_line d (plain_line kind s)).parts
  plain_fits kind s = go (eqb (number_of kind) diode_kind)
    where
      n : ℕ
      n = worth_at s (value_place s)

      go : (t : Bool) → ValuesFit (with_line d (cond t (element_line kind n s (Some 0)) (element_line kind 0 s (stage n)))).parts
      go true = element_fits_lem kind n s (Some 0) (omega arith)
      go false = element_fits_lem kind 0 s (stage n) (stage_bounded n)

  -- whatever a line says
  says_fits : (o : Opener) (s : List ℕ) (x : Line) → SaysBy o s x → ValuesFit (with_line d x).parts
  unfolding with_line with_setting with_curve
  says_fits Empty s x a = rw a each
  says_fits Resistor s x a = rw a.says (element_fits_lem kinds.Resistor 0 s a.worth (sum_bounded s most_open (value_place s) (length s) a.worth a.value))
  says_fits (Plain kind) s x a = rw a.says (plain_fits kind s)
  says_fits (Setting Drives) s x a = rw a.says each
  says_fits (Setting Output) s x a = rw a.says each
  says_fits (Setting Rate) s x a = rw a.says each
  says_fits Curves s x a = rw a.says each
  says_fits Other s x a = absurd a

  -- the answer after the last line: these parts, or none
  end_fits : (n : ℕ) → ValuesFit (answer_parts (at_end n d))
  unfolding at_end
  end_fits n = go (complete d) (eqb (numbers.number_of (judged d.parts)) 0)
    where
      go : (s t : Bool) → ValuesFit (answer_parts (cond s (cond t (Ok d.parts) (Err (Rules (judged d.parts)))) (Err (Grammar n))))
      go true true = each
      go true false = none_fit
      go false t = none_fit

-- ---- a text

-- the answer after the lines so far, if their elements have such values
answered_fits : {text : List (List ℕ)} {n : ℕ} {d : Draft} {a : Answer} → Answered text n d a → ValuesFit d.parts → ValuesFit (answer_parts a)
answered_fits (ended {n = n} {d = d}) each = end_fits d each n
answered_fits (unread h) each = none_fit
answered_fits (repeated x s k) each = none_fit
answered_fits (beyond x s k) each = none_fit
answered_fits (passed {here = here} {d = d} x s k rest) each = answered_fits rest (says_fits d each (opener_of (first run.Said here)) (first run.Said here) x s)

-- each element of the answer for a text has a value that its field holds
pub values_fit : (text : List ℕ) {a : Answer} → Answers text a → ValuesFit (answer_parts a)
values_fit text (long h) = none_fit
values_fit text (read h rest) = answered_fits rest blank_fit
