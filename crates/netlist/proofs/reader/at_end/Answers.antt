use mathlib.Core.Path.{sym, ◌∙◌}
use borrow.Author.Tests.{ne_eqb}
use Rattle.units.proofs.Numbers.{done_only}
use Rattle.netlist.specs.Answer.{at_end}
use Rattle.netlist.proofs.reader.at_end.Goals as goal

pub returns-then-not-complete : goal.returns-then-not-complete
unfolding at_end
returns-then-not-complete c = rw (sym c.complete.ensures ∙ c.if-not-complete.true)

pub returns-in-Done : goal.returns-in-Done
unfolding at_end
returns-in-Done c = rw (sym c.complete.ensures ∙ c.if-not-complete.false, sym c.judge.ensures ∙ c.in-Done.is)

pub returns-in_default : goal.returns-in_default
unfolding at_end
returns-in_default c = rw (sym c.complete.ensures ∙ c.if-not-complete.false, ← c.judge.ensures, ne_eqb _ 0 (λ e. c.in_default.not-Done (done_only c.judge.result e)))
