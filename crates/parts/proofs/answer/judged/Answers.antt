use mathlib.Core.Path.{sym, ◌∙◌}
use borrow.Author.Tests.{lt-ltb, le-ltb}
use Rattle.parts.specs.Answer.{judged_outcome}
use Rattle.parts.proofs.answer.judged.Goals as goal

pub returns-then-not-conductances_fit : goal.returns-then-not-conductances_fit
unfolding judged_outcome
returns-then-not-conductances_fit c = rw (sym c.conductances_fit.ensures ∙ c.if-not-conductances_fit.true)

pub returns-then-highest_named-parts : goal.returns-then-highest_named-parts
unfolding judged_outcome
returns-then-highest_named-parts c = rw (sym c.conductances_fit.ensures ∙ c.if-not-conductances_fit.false, ← c.highest_named.ensures, lt-ltb _ _ c.if-highest_named-parts.true)

pub returns : goal.returns
unfolding judged_outcome
returns c = rw (sym c.conductances_fit.ensures ∙ c.if-not-conductances_fit.false, ← c.highest_named.ensures, le-ltb _ _ c.if-highest_named-parts.false)
