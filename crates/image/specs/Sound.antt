-- What later layers may take for granted of parts that keep rules 2 to 5. Assumes nothing.
use Rattle.std.specs.Prelude.{◌≡◌, true, ℕ, ◌≤◌, ◌<◌}
use Rattle.network.specs.Network.{node_limit, branch_limit, CurveInLimits}
use Rattle.network.specs.Kind.{resistor_kind, diode_kind, has_curve}
use Rattle.image.specs.Parts.{curve_limit, element_of, curve_of, slopes_of, breakpoints_of}
use Rattle.image.specs.declared.parts.Parts.{Parts}

pub record Sound (parts : Parts) : Type 0 where
  pub some_node : 1 ≤ parts.nodes
  pub few_nodes : parts.nodes ≤ node_limit
  pub driven_there : parts.driven ≤ parts.nodes
  pub some_output : 1 ≤ parts.output
  pub output_there : parts.output ≤ parts.nodes
  pub some_element : 1 ≤ parts.element_count
  pub few_elements : parts.element_count ≤ branch_limit
  pub few_curves : parts.curve_count ≤ curve_limit
  pub kind_low : (j : ℕ) → j < parts.element_count → resistor_kind ≤ (element_of parts j).kind
  pub kind_high : (j : ℕ) → j < parts.element_count → (element_of parts j).kind ≤ diode_kind
  pub p_there : (j : ℕ) → j < parts.element_count → (element_of parts j).p ≤ parts.nodes
  pub q_there : (j : ℕ) → j < parts.element_count → (element_of parts j).q ≤ parts.nodes
  pub two_ended : (j : ℕ) → j < parts.element_count → (element_of parts j).p ≡ (element_of parts j).q → ⊥
  pub curve_there : (j : ℕ) → j < parts.element_count → has_curve (element_of parts j).kind ≡ true → (element_of parts j).curve < parts.curve_count
  pub curves : (k : ℕ) → k < parts.curve_count → CurveInLimits (slopes_of (curve_of parts k)) (breakpoints_of (curve_of parts k))
