use Rattle.std.proofs.Common.{◌<◌, arith, sym}
use lib.ListN.{length-take}
use Rattle.std.proofs.lemmas.List.{get_or-take}
use Rattle.image.specs.Parts.{no_element}
use Rattle.image.proofs.Places.{element_there}
use Rattle.parts.proofs.NamedLaws.{highest_none, highest_more}
use Rattle.parts.proofs.nodes.highest_named.Goals as goal

pub loop-e-init : goal.loop-e-init
loop-e-init c = sym (highest_none c.args.parts)

pub loop-e-preserved : goal.loop-e-preserved
loop-e-preserved c =
    let parts = c.args.parts in
    let j = c.loop-e.e-index in
    let there : j < parts.element_count = omega (arith, length-take parts.element_count parts.elements) in
    let more = rw (element_there parts j there) at (highest_more parts j) in
    let e = get_or-take parts.element_count parts.elements j no_element there in
    rw (c.max-highest.ensures, c.max.ensures, e, c.loop-e.invariant) (sym more)
