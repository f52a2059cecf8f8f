-- A circuit's parts as lines. Assumes nothing.
use Rattle.std.specs.Prelude.{cond, List, [], ◌∷◌, ◌++◌, ℕ, eqb}
use Rattle.units.specs.Table.{in_turn}
use Rattle.network.specs.Kind.{resistor_kind, capacitor_kind, inductor_kind, has_curve}
use Rattle.image.specs.Parts.{element_of}
use Rattle.image.specs.Conductance.{conductance_by}
use Rattle.image.specs.declared.parts.Element.{Element}
use Rattle.image.specs.declared.parts.Parts.{Parts}
use Rattle.report.specs.Fields.{column, last_column, named_line}

-- ---- the numbers of the whole circuit

-- `version `
abbrev pub version_word : List ℕ
version_word = 118 ∷ 101 ∷ 114 ∷ 115 ∷ 105 ∷ 111 ∷ 110 ∷ 32 ∷ []

-- `nodes `
abbrev pub nodes_word : List ℕ
nodes_word = 110 ∷ 111 ∷ 100 ∷ 101 ∷ 115 ∷ 32 ∷ []

-- `drives `
abbrev pub drives_word : List ℕ
drives_word = 100 ∷ 114 ∷ 105 ∷ 118 ∷ 101 ∷ 115 ∷ 32 ∷ []

-- `output `
abbrev pub output_word : List ℕ
output_word = 111 ∷ 117 ∷ 116 ∷ 112 ∷ 117 ∷ 116 ∷ 32 ∷ []

-- `rate `
abbrev pub rate_word : List ℕ
rate_word = 114 ∷ 97 ∷ 116 ∷ 101 ∷ 32 ∷ []

-- `elements `
abbrev pub elements_word : List ℕ
elements_word = 101 ∷ 108 ∷ 101 ∷ 109 ∷ 101 ∷ 110 ∷ 116 ∷ 115 ∷ 32 ∷ []

-- `curves `
abbrev pub curves_word : List ℕ
curves_word = 99 ∷ 117 ∷ 114 ∷ 118 ∷ 101 ∷ 115 ∷ 32 ∷ []

-- the version; how many nodes there are, how many of them are driven, and which is heard
unfoldable pub node_numbers : Parts → List ℕ
node_numbers parts = named_line version_word parts.version ++ (named_line nodes_word parts.nodes ++ (named_line drives_word parts.driven ++ named_line output_word parts.output))

-- the rate; how many elements and curves there are
unfoldable pub size_numbers : Parts → List ℕ
size_numbers parts = named_line rate_word parts.rate ++ (named_line elements_word parts.element_count ++ named_line curves_word parts.curve_count)

-- ---- the elements

-- `R`, `C`, `L`, and for a diode `D`
abbrev pub letter : (kind : ℕ) → ℕ
letter kind = cond (eqb kind resistor_kind) 82 (cond (eqb kind capacitor_kind) 67 (cond (eqb kind inductor_kind) 76 68))

-- what makes its current: a diode's curve, or the value of any other and its conductance
unfoldable pub law_columns : (rate : ℕ) → Element → List ℕ
law_columns rate e = cond (has_curve e.kind) (last_column e.curve) (column e.value ++ last_column (conductance_by e.kind e.value rate))

-- its letter, its two ends, and that
abbrev pub element_line : (rate : ℕ) → Element → List ℕ
element_line rate e = (letter e.kind ∷ 32 ∷ []) ++ (column e.p ++ (column e.q ++ law_columns rate e))

-- a line for each of the first n
abbrev pub element_lines : Parts → ℕ → List ℕ
element_lines parts = in_turn (λ (j : ℕ). element_line parts.rate (element_of parts j))

-- ---- all of them

abbrev pub parts_lines : Parts → List ℕ
parts_lines parts = node_numbers parts ++ (size_numbers parts ++ element_lines parts parts.element_count)
