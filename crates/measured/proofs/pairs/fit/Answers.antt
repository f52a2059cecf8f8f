use mathlib.Core.Path.{sym, ◌∙◌}
use Rattle.measured.specs.Measured.{pairs_fit}
use Rattle.measured.proofs.pairs.fit.Goals as goal

pub returns-then-not-count_fits : goal.returns-then-not-count_fits
unfolding pairs_fit
returns-then-not-count_fits c = rw (sym c.count_fits.ensures ∙ c.if-not-count_fits.true)

pub returns : goal.returns
unfolding pairs_fit
returns c =
    rw (sym c.count_fits.ensures ∙ c.if-not-count_fits.false, c.size_at.ensures, c.size_at-2.ensures, c.all_follow.ensures)
