use Rattle.std.proofs.Common.{sym, ◌∙◌, ap, true}
use Rattle.console.specs.Number.{plain}
use Rattle.console.proofs.NumberLaws.{spelt_minus, spelt_plain}
use Rattle.console.proofs.number.number.Goals as goal

pub returns-in-Some : goal.returns-in-Some
returns-in-Some c =
    let there = c.in-Some.ensures.cases in
    c.plain.ensures ∙ ap (plain true) there.1 ∙ sym (spelt_minus c.args.text.now there.0)

pub returns-in-None : goal.returns-in-None
returns-in-None c = c.plain-in-None.ensures ∙ sym (spelt_plain c.args.text.now c.in-None.ensures.cases)
