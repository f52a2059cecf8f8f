use Rattle.parts.proofs.AnswerLaws.{curve_written}
use borrow.Author.Rules.{rules}
use Rattle.parts.proofs.write_curves.Goals as goal

pub put-end-requires : goal.put-end-requires
put-end-requires g c =
    let written = curve_written c.args.answer.now c.loop-curve.curve-index c.requires (rw c.curves-curve-items.ensures.curves at c.loop-curve-test.true) in
    (rw c.curves-curve-items.ensures.curves written, search rules)
