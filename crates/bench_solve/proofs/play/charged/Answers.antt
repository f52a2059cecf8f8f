use mathlib.Core.Path.{sym, ◌∙◌}
use mir.Facts.{to_z-of_z}
use borrow.Author.Tests.{leb-true}
use Rattle.bench_solve.proofs.Opening.{uncharged, charged}
use Rattle.bench_solve.proofs.play.charged.Goals as goal

pub returns-then-is_kept : goal.returns-then-is_kept
returns-then-is_kept c =
    rw (to_z-of_z c.ranges.x) (charged c.args.at c.args.x c.if-at-lt32.true (leb-true _ _ (sym (rw (to_z-of_z c.ranges.x) at c.is_kept.ensures) ∙ c.if-is_kept.true)))

pub returns-else-is_kept : goal.returns-else-is_kept
returns-else-is_kept c = uncharged

pub returns-else-at-lt32 : goal.returns-else-at-lt32
returns-else-at-lt32 c = uncharged
