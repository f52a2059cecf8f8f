use Rattle.std.proofs.Common.{ℕ, ◌+◌, ◌≤◌, pos, take, length, ◌∙◌, leb, rules}
use borrow.Author.Tests.{tests}
use Rattle.std.specs.Int.Signed.{lt_z}
use Rattle.std.proofs.lemmas.Fn.{always_returns_same}
use Rattle.std.proofs.lemmas.Iterator.{YieldsList-from_slice}
use Rattle.std.proofs.lemmas.Iterator.Search.{all_from_yields_List}
use Rattle.units.specs.Voltage.{within}
use Rattle.units.proofs.Every.{every_of_all, every_of_adjacent}
use Rattle.network.specs.Network.{conductance_limit, breakpoint_limit}
use Rattle.image.specs.Parts.{curve_fits}
use Rattle.image.proofs.rules.curve_fits.Goals as goal

pub returns : goal.returns
unfolding curve_fits
returns c =
    let f = c.args.c.now in
    let room : f.count ≤ length f.breakpoints = search rules in
    let room-2 : f.count + 1 ≤ length f.slopes = search rules in
    let slopes = all_from_yields_List (λ (s : ℕ). leb s conductance_limit) _ _ c.all.result c.all.ensures.ran (YieldsList-from_slice (take (f.count + 1) f.slopes) cc) (λ x b q k. search (rules, tests)) in
    let breakpoints = all_from_yields_List (within breakpoint_limit) _ _ c.all-2.result c.all-2.ensures.ran (YieldsList-from_slice (take f.count f.breakpoints) cc) (λ x b q k. search (rules, tests)) in
    let rising = every_of_adjacent lt_z f.breakpoints (pos 0) f.count _ room (c.is_sorted_by.ensures.cases lt_z (always_returns_same _ _ _ (λ a r g k. search rules))) in
    rw (slopes ∙ every_of_all _ f.slopes 0 (f.count + 1) room-2, breakpoints ∙ every_of_all _ f.breakpoints (pos 0) f.count room, rising)
