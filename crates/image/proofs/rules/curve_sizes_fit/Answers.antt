use Rattle.std.proofs.Common.{◌≤◌, take, length, ◌∙◌, rules}
use borrow.Author.Tests.{tests}
use Rattle.std.proofs.lemmas.Iterator.{YieldsList-from_slice}
use Rattle.std.proofs.lemmas.Iterator.Search.{all_from_yields_List}
use Rattle.image.specs.Parts.{curve_size_fits}
use Rattle.image.specs.declared.parts.Curve.{Curve}
use Rattle.image.proofs.Says.{curve_sizes_fit_is}
use Rattle.image.proofs.rules.curve_sizes_fit.Goals as goal

pub returns : goal.returns
returns c =
    let parts = c.args.parts.now in
    let room : parts.curve_count ≤ length parts.curves = search rules in
    all_from_yields_List (λ (k : Curve). curve_size_fits k.count) _ _ c.all.result c.all.ensures.ran (YieldsList-from_slice (take parts.curve_count parts.curves) cc) (λ x b q k. search (rules, tests))
    ∙ curve_sizes_fit_is parts room
