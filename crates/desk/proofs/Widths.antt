-- The parts of a netlist that is accepted fit the widths of the image's fields. Assumes nothing.
use mathlib.Core.Path.{◌≡◌, ap}
use mathlib.Core.Bool.{true}
use mathlib.Core.List.{List}
use Prim.Native.Nat.{ℕ, suc, ◌<◌}
use native.Mathlib.Omega.{arith}
use lib.IntN.{pos}
use lib.ListN.{get_or}
use Rattle.units.specs.declared.number.Number.TheVariants.{Done}
use Rattle.units.specs.Table.{between}
use Rattle.units.proofs.Every.{between_says, every_says}
use Rattle.units.proofs.Machine.{fits_half}
use Rattle.units.proofs.Tables.{tabulate-length, tabulate-at}
use Rattle.network.specs.Network.{reading, breakpoint_limit, CurveInLimits}
use Rattle.image.specs.Judged.{judged}
use Rattle.image.specs.Parts.{version1, version2, in_version, element_of, curve_of, slopes_of, breakpoints_of, elements_fit}
use Rattle.image.specs.declared.parts.Curve.{Curve}
use Rattle.image.specs.declared.parts.Element.{Element}
use Rattle.image.specs.declared.parts.Parts.{Parts}
use Rattle.image.proofs.Judging.{judged_keeps, judged_sound}
use Rattle.image.proofs.Places.{element_there}
use Rattle.image.proofs.Says.{header_says}
use Rattle.netlist.specs.Answer.{Answer, answer_number, answer_parts, Answers}
use Rattle.netlist.proofs.KeptRules.{element_small}
use Rattle.netlist.proofs.Promise.{accepted_judged}
use Rattle.netlist.proofs.ValueLaws.{ValuesFit, values_fit}
use Rattle.writing.specs.Reached.{ElementInWidths, CurveInWidths, InWidths}

-- a curve within the network's limits fits
curve_in_widths : (c : Curve) → CurveInLimits (slopes_of c) (breakpoints_of c) → CurveInWidths c
unfolding slopes_of breakpoints_of
curve_in_widths c limits = record {
  count = omega (arith, limits.few, tabulate-length (reading c.breakpoints) c.count);
  slopes = λ j h. omega (arith, limits.slope j, tabulate-at (λ (j : ℕ). get_or c.slopes j 0) (suc c.count) j 0 (omega arith));
  breakpoints = λ j h. fits_half (reading c.breakpoints j) breakpoint_limit (rw (tabulate-at (reading c.breakpoints) c.count j (pos 0) h) at (limits.breakpoint j)) (omega arith);
}

-- so do parts that keep the rules, and have values that their fields hold
module _ (parts : Parts) (e : judged parts ≡ Done) (values : ValuesFit parts) where
  -- each of their elements
  element_in_widths : (j : ℕ) → j < parts.element_count → ElementInWidths (element_of parts j)
  unfolding elements_fit
  element_in_widths j l =
      let keeps = judged_keeps parts e in
      let sound = (judged_sound parts e).0 in
      let kept = element_small parts.version parts.nodes parts.curve_count sound.few_nodes sound.few_curves (element_of parts j) (every_says _ parts.element_count j keeps.elements l) in
      record {
        kind = omega (arith, sound.kind_high j l);
        p = omega (arith, ap (λ (e : Element). e.p) kept);
        q = omega (arith, ap (λ (e : Element). e.q) kept);
        curve = omega (arith, ap (λ (e : Element). e.curve) kept);
        value = rw (element_there parts j l) (omega (arith, values j));
      }

  -- all of them
  parts_in_widths : InWidths parts
  parts_in_widths =
      let header = header_says parts (judged_keeps parts e).header in
      record {
        version = omega arith;
        nodes = omega arith;
        driven = omega arith;
        output = omega arith;
        rate = omega arith;
        element_count = omega arith;
        elements = element_in_widths;
        curve_count = omega arith;
        curves = λ k l. curve_in_widths (curve_of parts k) ((judged_sound parts e).0.curves k l);
      }

-- and in every version that there is
version_in_widths : (version : ℕ) (parts : Parts) → InWidths parts → version < 256 → InWidths (in_version version parts)
unfolding in_version element_of curve_of
version_in_widths version parts w small = record {
  version = small;
  nodes = w.nodes;
  driven = w.driven;
  output = w.output;
  rate = w.rate;
  element_count = w.element_count;
  elements = w.elements;
  curve_count = w.curve_count;
  curves = w.curves;
}

-- the parts that a text is answered by fit, if its number is 0
pub in_widths : (text : List ℕ) {a : Answer} → Answers text a → answer_number a ≡ 0 → (version : ℕ) → between version1 version2 version ≡ true → InWidths (in_version version (answer_parts a))
in_widths text {a = a} h e version there =
    let low-high = between_says version1 version2 version there in
    version_in_widths version (answer_parts a) (parts_in_widths (answer_parts a) (accepted_judged text h e) (values_fit text h)) (omega (arith, low-high.1))
