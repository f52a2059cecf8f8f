use mathlib.Core.Path.{sym, ◌∙◌}
use Rattle.netlist.specs.Draft.{fault_of}
use borrow.Author.Rules.{rules}
use Rattle.netlist.proofs.draft.fault_in.Goals as goal

pub returns-then-has_said : goal.returns-then-has_said
unfolding fault_of
returns-then-has_said c = rw (c.in-Setting.is, sym c.has_said.ensures ∙ c.if-has_said.true)

pub returns-in-Broken : goal.returns-in-Broken
unfolding fault_of
returns-in-Broken c = search rules

pub returns-in-Outside : goal.returns-in-Outside
unfolding fault_of
returns-in-Outside c = search rules

pub returns-else-has_said : goal.returns-else-has_said
unfolding fault_of
returns-else-has_said c = rw (c.in-Setting.is, sym c.has_said.ensures ∙ c.if-has_said.false)

pub returns-in-Empty : goal.returns-in-Empty
unfolding fault_of
returns-in-Empty c = search rules

pub returns-in-Part : goal.returns-in-Part
unfolding fault_of
returns-in-Part c = search rules

pub returns-in-Curve : goal.returns-in-Curve
unfolding fault_of
returns-in-Curve c = search rules
