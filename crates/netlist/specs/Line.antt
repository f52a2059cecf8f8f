-- What a line of a netlist says: its grammar, up to the comment. A line is empty, or its first word tells what it is:
--   R1 1 2 1000      an element: a name that begins with R, C, L or D, two nodes, and a value: ohms, picofarads, microhenries, a curve's number
--   drives 1         a setting: drives, output or rate, and a number
--   curve 0 600000 10000000
-- s is what the line says; i is a place in it. Numbers are of any size. Assumes nothing.
use Rattle.std.specs.Prelude.{◌≡◌, Bool, true, false, ◌&&◌, cond, List, [], ◌∷◌, ℕ, eqb, length, get_or, drop, Some, None}
use Rattle.console.specs.Number.{worth_at}
use Rattle.console.specs.Words.{past, first}
use Rattle.console.specs.declared.words.Run.TheVariants.{Blanks, Digits, Name}
use Rattle.network.specs.Kind.{diode_kind, number_of}
use Rattle.network.specs.declared.kind.Kind.{Kind}
use Rattle.network.specs.declared.kind.Kind.TheVariants as kinds
use Rattle.image.specs.Parts.{no_curve}
use Rattle.image.specs.declared.parts.Curve.{Curve}
use Rattle.ohms.specs.Grammar.{Sum, most_open}
use Rattle.ohms.specs.Worth.{Worth, stage}
use Rattle.netlist.specs.Curve.{next, stands, ends, Stretches}
use Rattle.netlist.specs.declared.said.Line.{Line}
use Rattle.netlist.specs.declared.said.Line.TheVariants as line
use Rattle.netlist.specs.declared.line.Opener.{Opener}
use Rattle.netlist.specs.declared.line.Opener.TheVariants.{Empty, Resistor, Plain, Setting, Curves, Other}
use Rattle.netlist.specs.declared.said.Field.{Field}
use Rattle.netlist.specs.declared.said.Field.TheVariants.{Drives, Output, Rate}

-- ---- what a line begins with

-- `drives`
abbrev pub drives_word : List ℕ
drives_word = 100 ∷ 114 ∷ 105 ∷ 118 ∷ 101 ∷ 115 ∷ []

-- `output`
abbrev pub output_word : List ℕ
output_word = 111 ∷ 117 ∷ 116 ∷ 112 ∷ 117 ∷ 116 ∷ []

-- `rate`
abbrev pub rate_word : List ℕ
rate_word = 114 ∷ 97 ∷ 116 ∷ 101 ∷ []

-- `curve`
abbrev pub curve_word : List ℕ
curve_word = 99 ∷ 117 ∷ 114 ∷ 118 ∷ 101 ∷ []

-- the same bytes
unfoldable pub same : List ℕ → List ℕ → Bool
same [] [] = true
same [] (b ∷ t) = false
same (a ∷ s) [] = false
same (a ∷ s) (b ∷ t) = eqb a b && same s t

-- its first word begins after blanks
abbrev pub start : List ℕ → ℕ
start s = past Blanks s 0

-- an element by its letter: R, C, L, D
abbrev pub by_letter : ℕ → Opener
by_letter b = cond (eqb b 82) Resistor (cond (eqb b 67) (Plain kinds.Capacitor) (cond (eqb b 76) (Plain kinds.Inductor) (cond (eqb b 68) (Plain kinds.Diode) Other)))

-- a setting or a curve by its word, or else an element
abbrev pub by_word : List ℕ → Opener → Opener
by_word w other = cond (same w drives_word) (Setting Drives) (cond (same w output_word) (Setting Output) (cond (same w rate_word) (Setting Rate) (cond (same w curve_word) Curves other)))

unfoldable pub opener_of : List ℕ → Opener
opener_of s = cond (eqb (start s) (length s)) Empty (by_word (first Name (drop (start s) s)) (by_letter (get_or s (start s) 0)))

-- ---- elements

-- after the name come the two nodes, and then the value
abbrev pub after_name : List ℕ → ℕ
after_name s = next Name s (start s)

abbrev pub second_node : List ℕ → ℕ
second_node s = next Digits s (after_name s)

abbrev pub value_place : List ℕ → ℕ
value_place s = next Digits s (second_node s)

-- a name and two nodes stand there, a blank after each
abbrev pub headed : List ℕ → Bool
headed s = stands Name s (start s) && stands Digits s (after_name s) && stands Digits s (second_node s)

-- the element, if no stage of its value was outside the limits
abbrev pub element_line : Kind → (curve : ℕ) → List ℕ → Worth → Line
element_line kind curve s (Some v) = line.Part (record { kind = number_of kind; p = worth_at s (after_name s); q = worth_at s (second_node s); curve = curve; value = v })
element_line kind curve s None = line.Outside

-- with a plain number for its value: a diode's is the number of its curve, which has no limits here
abbrev pub plain_line : Kind → List ℕ → Line
plain_line kind s =
    let n = worth_at s (value_place s) in
    cond (eqb (number_of kind) diode_kind) (element_line kind n s (Some 0)) (element_line kind 0 s (stage n))

-- ---- what a line says

-- a resistor, whose value is all that remains of the line
pub record ResistorLine (s : List ℕ) (x : Line) : Type 0 where
  pub heads : headed s ≡ true
  pub worth : Worth
  pub value : Sum s most_open (value_place s) (length s) worth
  pub says : x ≡ element_line kinds.Resistor 0 s worth

-- another element, whose value is a number
pub record PlainLine (kind : Kind) (s : List ℕ) (x : Line) : Type 0 where
  pub heads : headed s ≡ true
  pub value : ends s (value_place s) ≡ true
  pub says : x ≡ plain_line kind s

-- a setting and its number
pub record SettingLine (field : Field) (s : List ℕ) (x : Line) : Type 0 where
  pub value : ends s (after_name s) ≡ true
  pub says : x ≡ line.Setting field (worth_at s (after_name s))

-- a curve, whose numbers stand from i on
pub record CurveLine (s : List ℕ) (i : ℕ) (x : Line) : Type 0 where
  pub curve : Curve
  pub numbers : Stretches s i no_curve curve
  pub says : x ≡ line.Curve curve

-- x is what the line says, by what it begins with
abbrev pub SaysBy : Opener → List ℕ → Line → Type 0
SaysBy Empty s x = x ≡ line.Empty
SaysBy Resistor s x = ResistorLine s x
SaysBy (Plain kind) s x = PlainLine kind s x
SaysBy (Setting field) s x = SettingLine field s x
SaysBy Curves s x = CurveLine s (after_name s) x
SaysBy Other s x = ⊥

abbrev pub Says : List ℕ → Line → Type 0
Says s = SaysBy (opener_of s) s
