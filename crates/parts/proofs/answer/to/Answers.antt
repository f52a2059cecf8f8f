use mathlib.Core.Path.{refl}
use Rattle.parts.proofs.AnswerLaws.{judged_ready}
use Rattle.image.proofs.Promise.{read_opening, read_refused, read_sound}
use Rattle.parts.proofs.answer.to.Goals as goal

pub judged-requires : goal.judged-requires
judged-requires c = read_sound _ _ c.in-Ok.ensures

pub returns-in-Ok : goal.returns-in-Ok
returns-in-Ok c = rw (read_opening _ _ c.in-Ok.ensures) (record { outcome = c.judged.ensures; ready = judged_ready c.in-Ok.parts c.judged.result (read_sound _ _ c.in-Ok.ensures) c.judged.ensures })

pub returns-in-Err : goal.returns-in-Err
returns-in-Err c = rw (read_refused _ _ c.in-Err.ensures) (record { outcome = refl; ready = tt })
