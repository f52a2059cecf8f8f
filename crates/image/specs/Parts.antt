-- A circuit's parts, which are the struct of the code, and document 01's rules 2 to 5 over them, without those of the image's layout.
-- Places past a count are not looked at. Limits that a circuit shares with the network are network's. Assumes nothing.
use Rattle.std.specs.Prelude.{Bool, ◌&&◌, not, cond, List, ℕ, suc, ◌+◌, ◌-◌, eqb, leb, ltb, ℤ, pos, get_or, replicate}
use Rattle.std.specs.Int.Signed.{lt_z}
use Rattle.units.specs.Table.{tabulate, between, every}
use Rattle.units.specs.Voltage.{within}
use Rattle.network.specs.Network.{reading, node_limit, branch_limit, conductance_limit, breakpoint_limit, breakpoint_count_limit}
use Rattle.network.specs.Kind.{resistor_kind, diode_kind, has_curve}
use Rattle.image.specs.declared.parts.Element.{Element}
use Rattle.image.specs.declared.parts.Curve.{Curve}
use Rattle.image.specs.declared.parts.Parts.{Parts}

abbrev pub curve_limit : ℕ
curve_limit = 8

-- sample rates, in hertz
abbrev pub lowest_rate : ℕ
lowest_rate = 8000

abbrev pub highest_rate : ℕ
highest_rate = 192000

-- the versions of an image: document 01's, and that of document 02's request 6
abbrev pub version1 : ℕ
version1 = 1

abbrev pub version2 : ℕ
version2 = 2

-- ---- elements and curves as far as the counts reach

-- what stands past the counts: zeros
abbrev pub no_element : Element
no_element = record { kind = 0; p = 0; q = 0; curve = 0; value = 0 }

abbrev pub no_curve : Curve
no_curve = record { count = 0; slopes = replicate (suc breakpoint_count_limit) 0; breakpoints = replicate breakpoint_count_limit (pos 0) }

unfoldable pub no_parts : Parts
no_parts = record {
  version = 0;
  nodes = 0;
  driven = 0;
  output = 0;
  rate = 0;
  element_count = 0;
  elements = replicate branch_limit no_element;
  curve_count = 0;
  curves = replicate curve_limit no_curve;
}

-- parts, taken for those of a version
unfoldable pub in_version : ℕ → Parts → Parts
in_version version parts = record {
  version = version;
  nodes = parts.nodes;
  driven = parts.driven;
  output = parts.output;
  rate = parts.rate;
  element_count = parts.element_count;
  elements = parts.elements;
  curve_count = parts.curve_count;
  curves = parts.curves;
}

-- element j and curve k
unfoldable pub element_of : Parts → ℕ → Element
element_of parts j = cond (ltb j parts.element_count) (get_or parts.elements j no_element) no_element

unfoldable pub curve_of : Parts → ℕ → Curve
curve_of parts k = cond (ltb k parts.curve_count) (get_or parts.curves k no_curve) no_curve

-- a curve's slopes and its breakpoints
unfoldable pub slopes_of : Curve → List ℕ
slopes_of c = tabulate (λ (j : ℕ). get_or c.slopes j 0) (suc c.count)

unfoldable pub breakpoints_of : Curve → List ℤ
breakpoints_of c = tabulate (reading c.breakpoints) c.count

-- ---- the rules

-- 2: counts, nodes, rate, output and version
unfoldable pub header_fits : Parts → Bool
header_fits parts =
    between 1 branch_limit parts.element_count
    && leb parts.curve_count curve_limit
    && between 1 node_limit parts.nodes
    && leb parts.driven parts.nodes
    && between lowest_rate highest_rate parts.rate
    && between 1 parts.nodes parts.output
    && between version1 version2 parts.version

-- 3: the size of a curve, which is the number of its breakpoints
abbrev pub curve_size_fits : ℕ → Bool
curve_size_fits = between 1 breakpoint_count_limit

unfoldable pub curve_sizes_fit : Parts → Bool
curve_sizes_fit parts = every (λ (k : ℕ). curve_size_fits (curve_of parts k).count) parts.curve_count

-- 4: a curve's slopes and breakpoints, the latter strictly rising
abbrev pub slope_fits : List ℕ → ℕ → Bool
slope_fits slopes j = leb (get_or slopes j 0) conductance_limit

abbrev pub breakpoint_fits : List ℤ → ℕ → Bool
breakpoint_fits breakpoints j = within breakpoint_limit (reading breakpoints j)

abbrev pub rises : List ℤ → ℕ → Bool
rises breakpoints j = lt_z (reading breakpoints j) (reading breakpoints (j + 1))

unfoldable pub curve_fits : Curve → Bool
curve_fits c =
    every (slope_fits c.slopes) (c.count + 1)
    && every (breakpoint_fits c.breakpoints) c.count
    && every (rises c.breakpoints) (c.count - 1)

unfoldable pub curves_fit : Parts → Bool
curves_fit parts = every (λ (k : ℕ). curve_fits (curve_of parts k)) parts.curve_count

-- 5: an element's fields; which kinds there are goes by the version
abbrev pub kind_allowed : (version kind : ℕ) → Bool
kind_allowed version kind = between resistor_kind diode_kind kind

unfoldable pub element_fits : (version nodes curves : ℕ) → Element → Bool
element_fits version nodes curves e =
    kind_allowed version e.kind
    && leb e.p nodes
    && leb e.q nodes
    && not (eqb e.p e.q)
    && cond (has_curve e.kind) (ltb e.curve curves && eqb e.value 0) (eqb e.curve 0 && leb 1 e.value)

unfoldable pub elements_fit : Parts → Bool
elements_fit parts = every (λ (j : ℕ). element_fits parts.version parts.nodes parts.curve_count (element_of parts j)) parts.element_count
