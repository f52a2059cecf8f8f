use mathlib.Core.Path.{sym, ◌∙◌}
use Rattle.bound.proofs.answer.put_judged.Goals as goal

pub returns-then-conductances_fit : goal.returns-then-conductances_fit
returns-then-conductances_fit c = rw (sym c.conductances_fit.ensures ∙ c.if-conductances_fit.true) c.put_bounds.ensures

pub returns : goal.returns
returns c = rw (sym c.conductances_fit.ensures ∙ c.if-conductances_fit.false) c.put_refused.ensures
