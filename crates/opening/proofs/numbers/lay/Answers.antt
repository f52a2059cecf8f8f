use mathlib.Core.Path.{◌≡◌, refl, sym, ◌∙◌, ap}
use mathlib.Core.Bool.{true, false}
use mathlib.Core.List.{List, [], ◌∷◌}
use Prim.Native.Nat.{ℕ, ◌+◌, ◌*◌, ◌<◌}
use native.Mathlib.Omega.{arith}
use lib.ListN.{get_or}
use Rattle.units.specs.Table.{overlaid}
use Rattle.units.proofs.Tables.{getD-alike}
use Rattle.network.specs.Kind.{has_curve}
use Rattle.image.specs.Parts.{no_element, no_curve, element_of, curve_of}
use Rattle.image.specs.Conductance.{conductance_by}
use Rattle.image.specs.Setting.{plain}
use Rattle.image.specs.declared.parts.Curve.{Curve}
use Rattle.image.specs.declared.parts.Element.{Element}
use Rattle.image.proofs.Places.{element_there, curve_there}
use Rattle.opening.proofs.LaidIs.{elements_more, values_curved, values_straight}
use Rattle.opening.proofs.numbers.lay.Goals as goal

pub bounds-parts-k : goal.bounds-parts-k
bounds-parts-k c =
    let the-element : get_or c.args.parts.now.elements c.args.j no_element ≡ element_of c.args.parts.now c.args.j = sym (element_there c.args.parts.now c.args.j c.requires.1) in
    let curved : has_curve (get_or c.args.parts.now.elements c.args.j no_element).kind ≡ true = sym c.has_curve.ensures ∙ c.if-has_curve.true in
    let curve-listed : (get_or c.args.parts.now.elements c.args.j no_element).curve < c.args.parts.now.curve_count = let e = the-element in rw (← e) at (c.requires.0.curve_there c.args.j c.requires.1 (rw e at curved)) in
    let curve_few : (get_or c.args.parts.now.elements c.args.j no_element).curve < 8 = omega (arith, curve-listed, c.requires.0.few_curves) in
    curve_few

pub returns-then-has_curve : goal.returns-then-has_curve
returns-then-has_curve c =
    let the-element : get_or c.args.parts.now.elements c.args.j no_element ≡ element_of c.args.parts.now c.args.j = sym (element_there c.args.parts.now c.args.j c.requires.1) in
    let curved : has_curve (get_or c.args.parts.now.elements c.args.j no_element).kind ≡ true = sym c.has_curve.ensures ∙ c.if-has_curve.true in
    let curve-listed : (get_or c.args.parts.now.elements c.args.j no_element).curve < c.args.parts.now.curve_count = let e = the-element in rw (← e) at (c.requires.0.curve_there c.args.j c.requires.1 (rw e at curved)) in
    let breakpoints : (get_or c.args.parts.now.curves (get_or c.args.parts.now.elements c.args.j no_element).curve (record { count = 0; slopes = []; breakpoints = [] })).count ≡ (curve_of c.args.parts.now (get_or c.args.parts.now.elements c.args.j no_element).curve).count = let k = (get_or c.args.parts.now.elements c.args.j no_element).curve in getD-alike (λ (a : Curve). a.count) c.args.parts.now.curves k _ no_curve refl ∙ ap (λ (a : Curve). a.count) (sym (curve_there c.args.parts.now k curve-listed)) in
    let few : c.args.j < 32 = omega (arith, c.requires.0.few_elements, c.requires.1) in
    let j = c.args.j in
    let e = get_or c.args.parts.now.elements j no_element in
    let g = c.conductance-g in
    let m = (get_or c.args.parts.now.curves e.curve (record { count = 0; slopes = []; breakpoints = [] })).count in
    let values : List ℕ = e.kind ∷ e.p ∷ e.q ∷ g.result ∷ 17 * e.curve ∷ m ∷ [] in
    (c.put.ensures ∙ ap (λ (b : List ℕ). overlaid b (101 + 6 * j) values) c.requires.2 ∙ elements_more c.args.parts.now plain j values few refl (values_curved c.args.parts.now plain j e g.result m the-element (g.ensures ∙ ap (λ (a : Element). conductance_by a.kind a.value c.args.parts.now.rate) the-element) curved breakpoints))

pub returns-else-has_curve : goal.returns-else-has_curve
returns-else-has_curve c =
    let the-element : get_or c.args.parts.now.elements c.args.j no_element ≡ element_of c.args.parts.now c.args.j = sym (element_there c.args.parts.now c.args.j c.requires.1) in
    let few : c.args.j < 32 = omega (arith, c.requires.0.few_elements, c.requires.1) in
    let straight : has_curve (get_or c.args.parts.now.elements c.args.j no_element).kind ≡ false = sym c.has_curve.ensures ∙ c.if-has_curve.false in
    let j = c.args.j in
    let e = get_or c.args.parts.now.elements j no_element in
    let g = c.conductance-g in
    let values : List ℕ = e.kind ∷ e.p ∷ e.q ∷ g.result ∷ 0 ∷ 0 ∷ [] in
    (c.put-else-has_curve.ensures ∙ ap (λ (b : List ℕ). overlaid b (101 + 6 * j) values) c.requires.2 ∙ elements_more c.args.parts.now plain j values few refl (values_straight c.args.parts.now plain j e g.result the-element (g.ensures ∙ ap (λ (a : Element). conductance_by a.kind a.value c.args.parts.now.rate) the-element) straight))
