-- A circuit's parts as the lines of a netlist, whose grammar is the crate netlist's. Assumes nothing.
use Rattle.std.specs.Prelude.{cond, List, [], ◌∷◌, ◌++◌, ℕ, suc, ℤ}
use Rattle.units.specs.Table.{in_turn}
use Rattle.network.specs.Kind.{has_curve}
use Rattle.network.specs.Network.{reading}
use Rattle.image.specs.Parts.{element_of}
use Rattle.image.specs.declared.parts.Curve.{Curve}
use Rattle.image.specs.declared.parts.Element.{Element}
use Rattle.image.specs.declared.parts.Parts.{Parts}
use Rattle.console.specs.Text.{line_end}
use Rattle.report.specs.Curve.{spaced, slope_number}
use Rattle.report.specs.Fields.{column, last_column, named_line}
use Rattle.report.specs.Parts.{version_word, drives_word, output_word, rate_word, letter}

-- `; version `: a comment, since a netlist can't say it
abbrev pub version_comment : List ℕ
version_comment = 59 ∷ 32 ∷ version_word

-- the version, and then the settings, each on a line
unfoldable pub setting_lines : Parts → List ℕ
setting_lines parts = named_line version_comment parts.version ++ (named_line drives_word parts.driven ++ (named_line output_word parts.output ++ named_line rate_word parts.rate))

-- ---- the elements

-- the number at the end of an element's line: a diode's curve, or the value of any other
abbrev pub last_number : Element → ℕ
last_number e = cond (has_curve e.kind) e.curve e.value

-- its letter and a number for its name, its two ends, and that
abbrev pub element_line : (number : ℕ) → Element → List ℕ
element_line number e = (letter e.kind ∷ []) ++ (column number ++ (column e.p ++ (column e.q ++ last_column (last_number e))))

-- a line for each of the first n, which are counted from 1
abbrev pub element_lines : Parts → ℕ → List ℕ
element_lines parts = in_turn (λ (j : ℕ). element_line (suc j) (element_of parts j))

-- ---- the curves

-- `curve`
abbrev pub curve_word : List ℕ
curve_word = 99 ∷ 117 ∷ 114 ∷ 118 ∷ 101 ∷ []

-- a slope, and the breakpoint up to which it goes
abbrev pub stretch : (slopes : List ℕ) (breakpoints : List ℤ) → ℕ → List ℕ
stretch slopes breakpoints j = spaced (slope_number slopes j) ++ spaced (reading breakpoints j)

-- a curve's stretches, and its last slope, which goes on
abbrev pub curve_line : Curve → List ℕ
curve_line c = curve_word ++ (in_turn (stretch c.slopes c.breakpoints) c.count ++ (spaced (slope_number c.slopes c.count) ++ line_end))
