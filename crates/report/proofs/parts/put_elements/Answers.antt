use Rattle.std.proofs.Common.{◌<◌, arith, sym}
use lib.ListN.{length-take}
use Rattle.std.proofs.lemmas.List.{get_or-take}
use Rattle.image.proofs.Places.{element_there}
use Rattle.report.proofs.TurnLaws.{turn_none, turn_more}
use Rattle.report.proofs.parts.put_elements.Goals as goal

pub loop-e-init : goal.loop-e-init
loop-e-init c = turn_none _

pub loop-e-preserved : goal.loop-e-preserved
loop-e-preserved c =
    let parts = c.args.parts in
    let j = c.loop-e.e-index in
    let there : j < parts.element_count = omega (arith, length-take parts.element_count parts.elements) in
    turn_more _ j c.loop-e.invariant (rw (get_or-take _ parts.elements j _ there, sym (element_there parts j there)) at c.put_element.ensures)
