use Rattle.std.proofs.Common.{◌<◌, arith, sym}
use native.Mathlib.Numerals.{add-one}
use lib.ListN.{length-take}
use Rattle.std.proofs.lemmas.List.{get_or-take}
use Rattle.image.proofs.Places.{element_there}
use Rattle.report.proofs.TurnLaws.{turn_none, turn_more}
use Rattle.parts.proofs.element.put_elements.Goals as goal

pub loop-j-init : goal.loop-j-init
loop-j-init c = turn_none _

pub loop-j-preserved : goal.loop-j-preserved
loop-j-preserved c =
    let parts = c.args.parts in
    let j = c.loop-j.j in
    let there : j < parts.element_count = omega (arith, length-take parts.element_count parts.elements) in
    turn_more _ j c.loop-j.invariant (rw (get_or-take _ parts.elements j _ there, add-one j, sym (element_there parts j there)) at c.put_element.ensures)
