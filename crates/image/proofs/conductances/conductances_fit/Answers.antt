use Rattle.std.proofs.Common.{◌≤◌, ◌<◌, take, length, ◌∙◌, sym, arith, rules}
use borrow.Author.Tests.{tests}
use Rattle.std.proofs.lemmas.Iterator.{YieldsList-from_slice}
use Rattle.std.proofs.lemmas.Iterator.Search.{all_from_yields_List}
use Rattle.image.specs.Conductance.{conductance_by, conductance_fits}
use Rattle.image.specs.declared.parts.Element.{Element}
use Rattle.image.proofs.Says.{conductances_fit_is, conductances_past}
use Rattle.image.proofs.conductances.conductances_fit.Goals as goal

pub returns-in_default : goal.returns-in_default
returns-in_default c =
    let past : length c.args.parts.elements < c.args.parts.element_count = omega (arith, c.in_default.ensures.lookup.0) in
    sym (conductances_past c.args.parts past)

pub returns : goal.returns
returns c =
    let parts = c.args.parts in
    let room : parts.element_count ≤ length parts.elements = omega (arith, c.in-Some.ensures.lookup.0) in
    all_from_yields_List (λ (e : Element). conductance_fits e.kind (conductance_by e.kind e.value parts.rate)) _ _ c.all.result c.all.ensures.ran (YieldsList-from_slice (take parts.element_count parts.elements) (search (rules, c.in-Some.ensures))) (λ x b q k. search (rules, tests))
    ∙ conductances_fit_is parts room
