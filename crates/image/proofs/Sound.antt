-- Parts that keep the rules are sound, and mean a network within its limits. Assumes nothing.
use mathlib.Core.Path.{◌≡◌, refl}
use mathlib.Core.Bool.{Bool, true, false, cond}
use Prim.Native.Nat.{ℕ, ◌≤◌, ◌<◌}
use native.Mathlib.Omega.{arith}
use lib.Dec.{eqb}
use Rattle.units.proofs.Every.{every_says}
use Rattle.network.specs.Network.{leak_limit, LawInLimits, InLimits}
use Rattle.network.specs.Kind.{has_curve}
use Rattle.image.specs.Parts.{version1, element_of, curve_of, header_fits, curve_sizes_fit, curve_fits, curves_fit, element_fits, elements_fit}
use Rattle.image.specs.Conductance.{conductance_at, conductance_fits, conductances_fit}
use Rattle.image.specs.Setting.{Setting}
use Rattle.image.specs.Sound.{Sound}
use Rattle.image.proofs.Says.{header_says, ElementSays, element_says, curve_says, conductance_says, curve_size}
use Rattle.image.specs.Meaning.{leak_of, law_at, branch_at, network_at}
use Rattle.image.specs.declared.parts.Parts.{Parts}

pub sound : (parts : Parts) → header_fits parts ≡ true → curve_sizes_fit parts ≡ true → curves_fit parts ≡ true → elements_fit parts ≡ true → Sound parts
unfolding curves_fit elements_fit
sound parts header sizes fits elements =
    let h = header_says parts header in
    record {
      some_node = h.some_node;
      few_nodes = h.few_nodes;
      driven_there = h.driven_there;
      some_output = h.some_output;
      output_there = h.output_there;
      some_element = h.some_element;
      few_elements = h.few_elements;
      few_curves = h.few_curves;
      kind_low = λ j l. (each j l).kind_low;
      kind_high = λ j l. (each j l).kind_high;
      p_there = λ j l. (each j l).p_there;
      q_there = λ j l. (each j l).q_there;
      two_ended = λ j l. (each j l).two_ended;
      curve_there = λ j l. (each j l).curve_there;
      curves = λ k l. curve_says (curve_of parts k) (curve_size parts sizes k l) (every_says (λ (k : ℕ). curve_fits (curve_of parts k)) parts.curve_count k fits l);
    }
  where
    each : (j : ℕ) → j < parts.element_count → ElementSays parts.nodes parts.curve_count (element_of parts j)
    each j l = element_says parts.version parts.nodes parts.curve_count (element_of parts j) (every_says (λ (j : ℕ). element_fits parts.version parts.nodes parts.curve_count (element_of parts j)) parts.element_count j elements l)

-- the leak of a version is at least 1, and within its limit
leak_limited : (version : ℕ) → (1 ≤ leak_of version) × (leak_of version ≤ leak_limit)
unfolding leak_of
leak_limited version = go (eqb version version1)
  where
    go : (t : Bool) → (1 ≤ cond t 1 10) × (cond t 1 10 ≤ leak_limit)
    go true = (omega arith, omega arith)
    go false = (omega arith, omega arith)

-- and with conductances in their limits the network is in its
pub in_limits : (parts : Parts) (setting : Setting) → Sound parts → conductances_fit parts setting ≡ true → InLimits (network_at parts setting)
unfolding branch_at conductances_fit
in_limits parts setting s fits = record {
  wired = record { driven_there = s.driven_there; p_there = s.p_there; q_there = s.q_there };
  leaks = (leak_limited parts.version).0;
  leak_small = (leak_limited parts.version).1;
  some_node = s.some_node;
  few_nodes = s.few_nodes;
  some_branch = s.some_element;
  few_branches = s.few_elements;
  laws = λ j l. law j l (has_curve (element_of parts j).kind) refl;
  two_ended = s.two_ended;
}
  where
    law : (j : ℕ) → j < parts.element_count → (b : Bool) → has_curve (element_of parts j).kind ≡ b → LawInLimits (law_at parts setting j)
    law j l true e = rw e (s.curves (element_of parts j).curve (s.curve_there j l e))
    law j l false e = rw e (conductance_says (element_of parts j).kind (conductance_at parts setting j) (every_says (λ (j : ℕ). conductance_fits (element_of parts j).kind (conductance_at parts setting j)) parts.element_count j fits l) e)
