use mathlib.Core.Path.{sym, ◌∙◌, ap}
use mathlib.Core.List.{[]}
use lib.ListN.{length}
use borrow.Author.Tests.{le-leb, lt-leb}
use Rattle.curve.specs.Text.{told, answer, longest_text, curve_of}
use Rattle.curve.proofs.KeptLaws.{broken_tells, whole_tells}
use Rattle.curve.proofs.pairs.curve.Goals as goal

pub returns-then-text-gt-LONGEST : goal.returns-then-text-gt-LONGEST
unfolding curve_of
returns-then-text-gt-LONGEST c = rw (lt-leb (length c.args.text.now) longest_text c.if-text-gt-LONGEST.true)

pub returns-in_default : goal.returns-in_default
unfolding curve_of
returns-in_default c =
    let text = c.args.text.now in
    let short = le-leb (length text) longest_text c.if-text-gt-LONGEST.false in
    rw short (ap answer (sym (broken_tells (told [] []))) ∙ c.in_default.ensures)

pub returns : goal.returns
unfolding curve_of
returns c =
    let text = c.args.text.now in
    let short = le-leb (length text) longest_text c.if-text-gt-LONGEST.false in
    c.curve.ensures ∙ rw short (ap answer (sym (whole_tells c.in-Some.kept)) ∙ c.in-Some.ensures)
