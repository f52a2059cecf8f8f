use native.Mathlib.Omega.{arith}
use lib.ListN.{length}
use borrow.Author.Tests.{eq-eqb, ne_eqb}
use Rattle.console.specs.declared.words.Run.TheVariants.{Blanks}
use Rattle.console.proofs.WordLaws.{past_within, from_there}
use Rattle.netlist.specs.Line.{start, opener_of}
use Rattle.netlist.proofs.line.opened.Goals as goal

pub returns-then-s-at : goal.returns-then-s-at
unfolding opener_of
returns-then-s-at c =
    let s = c.args.s.now in
    rw (eq-eqb (start s) (length s) (omega (arith, c.past-at.ensures, past_within Blanks s 0 (omega arith), c.if-s-at.true)))

pub returns : goal.returns
unfolding opener_of
returns c =
    let s = c.args.s.now in
    let here = c.past-at.ensures in
    rw (ne_eqb (start s) (length s) (λ e. omega (arith, here, c.if-s-at.false)), c.by_word.ensures, c.first.ensures, here, from_there (start s) s)
