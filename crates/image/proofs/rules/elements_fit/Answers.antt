use Rattle.std.proofs.Common.{◌≤◌, take, length, ◌∙◌, rules}
use borrow.Author.Tests.{tests}
use Rattle.std.proofs.lemmas.Iterator.{YieldsList-from_slice}
use Rattle.std.proofs.lemmas.Iterator.Search.{all_from_yields_List}
use Rattle.image.specs.Parts.{element_fits}
use Rattle.image.proofs.Says.{elements_fit_is}
use Rattle.image.proofs.rules.elements_fit.Goals as goal

pub returns : goal.returns
returns c =
    let parts = c.args.parts.now in
    let room : parts.element_count ≤ length parts.elements = search rules in
    all_from_yields_List (element_fits parts.version parts.nodes parts.curve_count) _ _ c.all.result c.all.ensures.ran (YieldsList-from_slice (take parts.element_count parts.elements) cc) (λ x b q k. search (rules, tests))
    ∙ elements_fit_is parts room
