-- What each of the rules over a circuit's parts says when it holds: the test as facts, by name. Assumes nothing.
use mathlib.Core.Path.{◌≡◌, sym, ◌∙◌, ap}
use mathlib.Core.Bool.{Bool, true, false, ◌&&◌, not, cond}
use mathlib.Core.Logic.{⊎_elim}
use Prim.Native.Nat.{ℕ, suc, ◌+◌, ◌-◌, ◌≤◌, ◌<◌}
use native.Mathlib.Omega.{arith}
use native.Mathlib.Numerals.{add-one}
use lib.Dec.{eqb, leb, ltb}
use lib.IntN.{pos, nat_abs}
use lib.ListN.{length, take, get_or, get_or-eq_default}
use Rattle.std.specs.List.{list_all}
use borrow.Author.Tests.{leb-true, ltb-true, eqb-false, not-true}
use Rattle.units.specs.Table.{between, every}
use Rattle.units.proofs.Tables.{tabulate-length, tabulate-at, tabulate-past}
use Rattle.units.proofs.Every.{both, between_says, every_says, every_fails, every_same, every_of_all}
use Rattle.units.proofs.Integers.{decide_n}
use Rattle.network.specs.Network.{reading, node_limit, branch_limit, conductance_limit, breakpoint_limit, breakpoint_count_limit, CurveInLimits}
use Rattle.network.specs.Kind.{has_curve, resistor_kind, diode_kind}
use Rattle.image.specs.Parts.{curve_limit, lowest_rate, highest_rate, version1, version2, no_element, no_curve, curve_of, slopes_of, breakpoints_of, header_fits, curve_size_fits, curve_sizes_fit, slope_fits, breakpoint_fits, rises, curve_fits, curves_fit, kind_allowed, element_fits, elements_fit}
use Rattle.image.specs.Conductance.{conductance_by, conductance_fits, conductances_fit}
use Rattle.image.specs.Setting.{plain}
use Rattle.image.proofs.Places.{element_there, curve_there}
use Rattle.image.specs.declared.parts.Parts.{Parts}
use Rattle.image.specs.declared.parts.Curve.{Curve}
use Rattle.image.specs.declared.parts.Element.{Element}

-- rule 2
pub record HeaderSays (parts : Parts) : Type 0 where
  pub some_element : 1 ≤ parts.element_count
  pub few_elements : parts.element_count ≤ branch_limit
  pub few_curves : parts.curve_count ≤ curve_limit
  pub some_node : 1 ≤ parts.nodes
  pub few_nodes : parts.nodes ≤ node_limit
  pub driven_there : parts.driven ≤ parts.nodes
  pub rate_low : lowest_rate ≤ parts.rate
  pub rate_high : parts.rate ≤ highest_rate
  pub some_output : 1 ≤ parts.output
  pub output_there : parts.output ≤ parts.nodes
  pub version_low : version1 ≤ parts.version
  pub version_high : parts.version ≤ version2

pub header_says : (parts : Parts) → header_fits parts ≡ true → HeaderSays parts
unfolding header_fits
header_says parts e =
    let b = both {b = between version1 version2 parts.version} e in
    let c = both {b = between 1 parts.nodes parts.output} b.0 in
    let d = both {b = between lowest_rate highest_rate parts.rate} c.0 in
    let f = both {b = leb parts.driven parts.nodes} d.0 in
    let g = both {b = between 1 node_limit parts.nodes} f.0 in
    let h = both {a = between 1 branch_limit parts.element_count} {b = leb parts.curve_count curve_limit} g.0 in
    let elements = between_says 1 branch_limit parts.element_count h.0 in
    let nodes = between_says 1 node_limit parts.nodes g.1 in
    let rate = between_says lowest_rate highest_rate parts.rate d.1 in
    let output = between_says 1 parts.nodes parts.output c.1 in
    let version = between_says version1 version2 parts.version b.1 in
    record {
      some_element = elements.0;
      few_elements = elements.1;
      few_curves = leb-true parts.curve_count curve_limit h.1;
      some_node = nodes.0;
      few_nodes = nodes.1;
      driven_there = leb-true parts.driven parts.nodes f.1;
      rate_low = rate.0;
      rate_high = rate.1;
      some_output = output.0;
      output_there = output.1;
      version_low = version.0;
      version_high = version.1;
    }

pub few_elements : (parts : Parts) → header_fits parts ≡ true → parts.element_count ≤ branch_limit
few_elements parts e = (header_says parts e).few_elements

pub few_curves : (parts : Parts) → header_fits parts ≡ true → parts.curve_count ≤ curve_limit
few_curves parts e = (header_says parts e).few_curves

-- rule 3: the size of each curve
pub curve_size : (parts : Parts) → curve_sizes_fit parts ≡ true → (k : ℕ) → k < parts.curve_count → curve_size_fits (curve_of parts k).count ≡ true
unfolding curve_sizes_fit
curve_size parts e k h = every_says (λ (k : ℕ). curve_size_fits (curve_of parts k).count) parts.curve_count k e h

-- the rule, over the curves that there are
pub curve_sizes_fit_is : (parts : Parts) → parts.curve_count ≤ length parts.curves → list_all (λ (c : Curve). curve_size_fits c.count) (take parts.curve_count parts.curves) ≡ curve_sizes_fit parts
unfolding curve_sizes_fit
curve_sizes_fit_is parts there =
    every_of_all _ parts.curves no_curve parts.curve_count there
    ∙ every_same _ _ parts.curve_count (λ k h. ap (λ (c : Curve). curve_size_fits c.count) (sym (curve_there parts k h)))

-- rule 4: a curve is one of the network's
pub curve_says : (c : Curve) → curve_size_fits c.count ≡ true → curve_fits c ≡ true → CurveInLimits (slopes_of c) (breakpoints_of c)
unfolding curve_fits slopes_of breakpoints_of
curve_says c size e =
    let m = c.count in
    let slopes = slope_fits c.slopes in
    let breakpoints = breakpoint_fits c.breakpoints in
    let a = both {b = every (rises c.breakpoints) (m - 1)} e in
    let b = both {a = every slopes (m + 1)} {b = every breakpoints m} a.0 in
    let s = between_says 1 breakpoint_count_limit m size in
    let many = tabulate-length (reading c.breakpoints) m in
    record {
      some = omega (arith, many);
      few = omega (arith, many);
      stretches = tabulate-length (λ (j : ℕ). get_or c.slopes j 0) (suc m) ∙ ap suc (sym many);
      slope =
          λ j. ⊎_elim
          (λ (h : suc m ≤ j). rw (tabulate-past (λ (j : ℕ). get_or c.slopes j 0) (suc m) j 0 h) (omega arith))
          (λ (h : j < suc m). rw (tabulate-at (λ (j : ℕ). get_or c.slopes j 0) (suc m) j 0 h) (leb-true (get_or c.slopes j 0) conductance_limit (every_says slopes (m + 1) j b.0 (omega arith))))
          (decide_n (suc m) j);
      breakpoint =
          λ j. ⊎_elim
          (λ (h : m ≤ j). rw (tabulate-past (reading c.breakpoints) m j (pos 0) h) (omega arith))
          (λ (h : j < m). rw (tabulate-at (reading c.breakpoints) m j (pos 0) h) (leb-true (nat_abs (reading c.breakpoints j)) breakpoint_limit (every_says breakpoints m j b.1 h)))
          (decide_n m j);
      rising =
          λ j h.
          rw (tabulate-at (reading c.breakpoints) m j (pos 0) (omega (arith, many)), tabulate-at (reading c.breakpoints) m (suc j) (pos 0) (omega (arith, many)))
          (record { lt = rw (rw add-one at (every_says (rises c.breakpoints) (m - 1) j a.1 (omega (arith, many)))) tt });
    }

-- the rule, over the curves that there are
pub curves_fit_is : (parts : Parts) → parts.curve_count ≤ length parts.curves → list_all curve_fits (take parts.curve_count parts.curves) ≡ curves_fit parts
unfolding curves_fit
curves_fit_is parts there =
    every_of_all _ parts.curves no_curve parts.curve_count there ∙ every_same _ _ parts.curve_count (λ k h. ap curve_fits (sym (curve_there parts k h)))

-- rule 5
pub record ElementSays (nodes curves : ℕ) (e : Element) : Type 0 where
  pub kind_low : resistor_kind ≤ e.kind
  pub kind_high : e.kind ≤ diode_kind
  pub p_there : e.p ≤ nodes
  pub q_there : e.q ≤ nodes
  pub two_ended : e.p ≡ e.q → ⊥
  pub curve_there : has_curve e.kind ≡ true → e.curve < curves

pub element_says : (version nodes curves : ℕ) (e : Element) → element_fits version nodes curves e ≡ true → ElementSays nodes curves e
unfolding element_fits
element_says version nodes curves e t =
    let diode = ltb e.curve curves && eqb e.value 0 in
    let other = eqb e.curve 0 && leb 1 e.value in
    let a = both {b = cond (has_curve e.kind) diode other} t in
    let b = both {b = not (eqb e.p e.q)} a.0 in
    let c = both {b = leb e.q nodes} b.0 in
    let d = both {a = kind_allowed version e.kind} {b = leb e.p nodes} c.0 in
    let kind = between_says resistor_kind diode_kind e.kind d.0 in
    record {
      kind_low = kind.0;
      kind_high = kind.1;
      p_there = leb-true e.p nodes d.1;
      q_there = leb-true e.q nodes c.1;
      two_ended = eqb-false e.p e.q (not-true (eqb e.p e.q) b.1);
      curve_there = λ k. ltb-true e.curve curves (both {a = ltb e.curve curves} {b = eqb e.value 0} (yes (has_curve e.kind) diode other k a.1)).0;
    }
  where
    yes : (b x y : Bool) → b ≡ true → cond b x y ≡ true → x ≡ true
    yes b x y k h = rw k at h

-- the rule, over the elements that there are
pub elements_fit_is : (parts : Parts) → parts.element_count ≤ length parts.elements → list_all (element_fits parts.version parts.nodes parts.curve_count) (take parts.element_count parts.elements) ≡ elements_fit parts
unfolding elements_fit
elements_fit_is parts there =
    every_of_all _ parts.elements no_element parts.element_count there
    ∙ every_same _ _ parts.element_count (λ j h. ap (element_fits parts.version parts.nodes parts.curve_count) (sym (element_there parts j h)))

-- rule 6
pub conductance_says : (kind g : ℕ) → conductance_fits kind g ≡ true → has_curve kind ≡ false → (1 ≤ g) × (g ≤ conductance_limit)
conductance_says kind g e n = between_says 1 conductance_limit g (rw n at e)

-- the rule, over the elements that there are
pub conductances_fit_is : (parts : Parts) → parts.element_count ≤ length parts.elements → list_all (λ (e : Element). conductance_fits e.kind (conductance_by e.kind e.value parts.rate)) (take parts.element_count parts.elements) ≡ conductances_fit parts plain
unfolding conductances_fit
conductances_fit_is parts there =
    every_of_all _ parts.elements no_element parts.element_count there
    ∙ every_same _ _ parts.element_count (λ j h. ap (λ (e : Element). conductance_fits e.kind (conductance_by e.kind e.value parts.rate)) (sym (element_there parts j h)))

-- where the count is past them, what stands there has no conductance
pub conductances_past : (parts : Parts) → length parts.elements < parts.element_count → conductances_fit parts plain ≡ false
unfolding conductances_fit conductance_by
conductances_past parts past =
    let j = length parts.elements in
    every_fails _ parts.element_count j past (rw (element_there parts j past ∙ get_or-eq_default parts.elements no_element (omega arith)))
