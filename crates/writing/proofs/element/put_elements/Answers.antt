use mathlib.Core.Path.{◌≡◌, ◌∙◌, ap}
use Prim.Native.Nat.{◌≤◌}
use native.Mathlib.Omega.{arith}
use lib.ListN.{length, get_or, length-take}
use borrow.Author.Rules.{rules}
use Rattle.units.specs.Table.{overlaid}
use Rattle.image.specs.Parts.{no_element}
use Rattle.writing.specs.Image.{element_bytes}
use Rattle.writing.proofs.Overlaying.{among, turn_none, turn_more, element_in, elements_there, elements_length}
use Rattle.writing.proofs.element.put_elements.Goals as goal

pub loop-j-init : goal.loop-j-init
loop-j-init c = turn_none _ _ 0

pub loop-j-preserved : goal.loop-j-preserved
loop-j-preserved c =
    let l = c.loop-j in
    let elements = c.args.parts.elements in
    let item = among elements c.args.parts.element_count l.j no_element _ c.loop-j-test.true in
    (turn_more (element_in elements) c.args.buffer.now 0 l.j l.invariant c.put_element.ensures (omega (arith, elements_length (λ i. get_or elements i no_element) l.j)) (ap element_bytes item))

pub returns : goal.returns
returns c =
    let l = c.loop-j in
    let parts = c.args.parts in
    let many : parts.element_count ≤ length parts.elements = search rules in
    let e : l.j ≡ parts.element_count = omega (arith, many, length-take parts.element_count parts.elements, c.requires.0) in
    (rw e at l.invariant) ∙ ap (overlaid _ 0) (elements_there parts)
