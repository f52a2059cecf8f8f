-- A circuit's parts as far as their counts reach, and the widths of their fields. Assumes nothing.
use Rattle.std.specs.Prelude.{ℕ, suc, ◌+◌, ◌^◌, ◌≤◌, ◌<◌, pos, get_or}
use Rattle.std.specs.Int.{w32}
use Rattle.std.proofs.Common.{SFits}
use Rattle.units.specs.Table.{padded}
use Rattle.network.specs.Network.{reading, branch_limit, breakpoint_count_limit}
use Rattle.image.specs.Parts.{curve_limit, no_element, no_curve, element_of, curve_of}
use Rattle.image.specs.declared.parts.Curve.{Curve}
use Rattle.image.specs.declared.parts.Element.{Element}
use Rattle.image.specs.declared.parts.Parts.{Parts}

-- a curve with zeros past its own slopes and breakpoints
unfoldable pub reached_curve : Curve → Curve
reached_curve c = record {
  count = c.count;
  slopes = padded 0 (suc breakpoint_count_limit) (λ (j : ℕ). get_or c.slopes j 0) (c.count + 1);
  breakpoints = padded (pos 0) breakpoint_count_limit (reading c.breakpoints) c.count;
}

-- parts with zeros past their elements and curves
unfoldable pub reached : Parts → Parts
reached parts = record {
  version = parts.version;
  nodes = parts.nodes;
  driven = parts.driven;
  output = parts.output;
  rate = parts.rate;
  element_count = parts.element_count;
  elements = padded no_element branch_limit (element_of parts) parts.element_count;
  curve_count = parts.curve_count;
  curves = padded no_curve curve_limit (λ (k : ℕ). reached_curve (curve_of parts k)) parts.curve_count;
}

-- ---- the widths, which are those of the code's own types: one byte, four, and four with a sign

pub record ElementInWidths (e : Element) : Type 0 where
  pub kind : e.kind < 256
  pub p : e.p < 256
  pub q : e.q < 256
  pub curve : e.curve < 256
  pub value : e.value < 256 ^ 4

pub record CurveInWidths (c : Curve) : Type 0 where
  pub count : c.count < 256
  pub slopes : (j : ℕ) → j ≤ c.count → get_or c.slopes j 0 < 256 ^ 4
  pub breakpoints : (j : ℕ) → j < c.count → SFits w32 (reading c.breakpoints j)

pub record InWidths (parts : Parts) : Type 0 where
  pub version : parts.version < 256
  pub nodes : parts.nodes < 256
  pub driven : parts.driven < 256
  pub output : parts.output < 256
  pub rate : parts.rate < 256 ^ 4
  pub element_count : parts.element_count < 256
  pub elements : (j : ℕ) → j < parts.element_count → ElementInWidths (element_of parts j)
  pub curve_count : parts.curve_count < 256
  pub curves : (k : ℕ) → k < parts.curve_count → CurveInWidths (curve_of parts k)
