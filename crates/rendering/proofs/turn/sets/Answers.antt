use Rattle.rendering.proofs.RenderingLaws.{sets_none, sets_some}
use Rattle.rendering.proofs.turn.sets.Goals as goal

pub returns-then-driven-eq0 : goal.returns-then-driven-eq0
returns-then-driven-eq0 c = sets_none _ _ c.if-driven-eq0.true

pub returns : goal.returns
returns c = sets_some _ _ c.if-driven-eq0.false
