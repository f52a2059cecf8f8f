use native.Mathlib.Omega.{arith}
use Rattle.image.proofs.Promise.{read_opening, read_refused, read_sound}
use Rattle.bound.proofs.answer.put.Goals as goal

pub put_judged-requires : goal.put_judged-requires
put_judged-requires c = (read_sound _ _ c.in-Ok.ensures, c.requires)

pub returns-in-Ok : goal.returns-in-Ok
returns-in-Ok c =
    let p = c.put_judged in
    (rw (read_opening _ _ c.in-Ok.ensures) p.ensures.0, omega (arith, p.ensures.1, c.requires, p.auto.buffer))

pub returns-in-Err : goal.returns-in-Err
returns-in-Err c =
    let p = c.put_refused in
    (rw (read_refused _ _ c.in-Err.ensures) p.ensures.0, omega (arith, p.ensures.1, c.requires, p.auto.buffer))
