use Rattle.std.proofs.Common.{sym, ◌∙◌, arith}
use Rattle.console.proofs.TextLaws.{adds_within}
use Rattle.curve.specs.Answer.{answer_to}
use Rattle.curve.proofs.KeptLaws.{curve_few}
use Rattle.curve.proofs.answer.put.Goals as goal

pub put_curve-requires : goal.put_curve-requires
put_curve-requires c = (curve_few c.args.list.now c.in-Ok.curve (sym c.curve.ensures ∙ c.in-Ok.is), c.requires)

pub returns-in-Ok : goal.returns-in-Ok
unfolding answer_to
returns-in-Ok c =
    let p = c.put_curve in
    (rw (← c.curve.ensures, c.in-Ok.is) p.ensures, omega (arith, p.ensures.short, p.ensures.moved, p.auto.buffer, c.requires))

pub returns-in-Err : goal.returns-in-Err
unfolding answer_to
returns-in-Err c =
    let p = c.put_refused in
    (rw (← c.curve.ensures, c.in-Err.is) (adds_within (omega arith) (rw c.from.ensures at p.ensures)), omega (arith, p.ensures.short, p.ensures.moved, p.auto.buffer, c.requires))
