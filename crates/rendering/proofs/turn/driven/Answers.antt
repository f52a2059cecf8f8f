use native.Mathlib.Omega.{arith}
use Rattle.rendering.proofs.RenderingLaws.{driven_opened, driven_refused}
use Rattle.rendering.proofs.turn.driven.Goals as goal

pub returns-in-Ok : goal.returns-in-Ok
returns-in-Ok c = driven_opened c.in-Ok.ensures

pub returns-in-Err : goal.returns-in-Err
returns-in-Err c = (driven_refused c.in-Err.ensures, omega arith)
