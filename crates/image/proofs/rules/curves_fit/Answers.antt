use Rattle.std.proofs.Common.{◌≡◌, true, ◌≤◌, take, length, ◌∙◌, rules}
use borrow.Author.Tests.{tests}
use Rattle.std.specs.List.{All}
use Rattle.std.proofs.iter.Serving.{serving}
use Rattle.std.proofs.lemmas.Iterator.{YieldsList-from_slice}
use Rattle.std.proofs.lemmas.Iterator.Search.{all_from_yields_List}
use Rattle.std.proofs.lemmas.List.Sums.{AllPass-from_list_all}
use Rattle.image.specs.Parts.{curve_size_fits, curve_fits}
use Rattle.image.specs.declared.parts.Curve.{Curve}
use Rattle.image.proofs.Says.{curve_sizes_fit_is, curves_fit_is}
use Rattle.image.proofs.rules.curves_fit.Goals as goal

pub all-requires : goal.all-requires
all-requires c =
    let parts = c.args.parts.now in
    let room : parts.curve_count ≤ length parts.curves = search rules in
    let sizes : All (λ (k : Curve). curve_size_fits k.count ≡ true) (take parts.curve_count parts.curves) = AllPass-from_list_all _ _ (curve_sizes_fit_is parts room ∙ c.requires.1) in
    grind serving

pub returns : goal.returns
returns c =
    let parts = c.args.parts.now in
    let room : parts.curve_count ≤ length parts.curves = search rules in
    all_from_yields_List curve_fits _ _ c.all.result c.all.ensures.ran (YieldsList-from_slice (take parts.curve_count parts.curves) cc) (λ x b q k. search (rules, tests))
    ∙ curves_fit_is parts room
