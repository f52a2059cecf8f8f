use Rattle.std.proofs.Common.{sym, ◌∙◌}
use Rattle.units.proofs.Every.{every_none, every_more, every_fails}
use Rattle.measured.proofs.pairs.all_follow.Goals as goal

pub loop-j-init : goal.loop-j-init
loop-j-init c = every_none _

pub returns-then-not-follows : goal.returns-then-not-follows
returns-then-not-follows c = sym (every_fails _ _ c.loop-j.j c.loop-j-test.true (sym c.follows.ensures ∙ c.if-not-follows.true))

pub loop-j-preserved : goal.loop-j-preserved
loop-j-preserved c = every_more _ _ c.loop-j.invariant (sym c.follows.ensures ∙ c.if-not-follows.false)
