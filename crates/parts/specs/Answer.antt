-- What the program `parts` answers of an image: a beginning, and a `curve_line` for each of the curves after it. Assumes nothing.
use Rattle.std.specs.Prelude.{◌≡◌, cond, Result, Ok, Err, IfOk, List, [], ◌∷◌, ◌++◌, take, ℕ, ltb}
use Rattle.units.specs.Number.{number_of}
use Rattle.units.specs.declared.number.Number.TheVariants.{Conductance}
use Rattle.image.specs.Conductance.{conductances_fit}
use Rattle.image.specs.Format.{Opening, opened, refused}
use Rattle.image.specs.Setting.{plain}
use Rattle.image.specs.Sound.{Sound}
use Rattle.image.specs.declared.parts.Curve.{Curve}
use Rattle.image.specs.declared.parts.Parts.{Parts}
use Rattle.console.specs.Text.{refused_line}
use Rattle.report.specs.Fields.{named_line}
use Rattle.parts.specs.Named.{highest_named}
use Rattle.parts.specs.Netlist.{setting_lines, element_lines}
use Rattle.parts.specs.declared.answer.Reason.{Reason}
use Rattle.parts.specs.declared.answer.Reason.TheVariants.{Refused, Unnamed}

-- ---- what an image comes to

-- the parts of a netlist, or why there is none
abbrev pub Answer : Type 0
Answer = Result Parts Reason

-- an opened image: refused by rule 6, or with more nodes than a netlist would name, or a netlist
unfoldable pub judged_outcome : Parts → Answer
judged_outcome parts =
    cond (conductances_fit parts plain)
    (cond (ltb (highest_named parts) parts.nodes) (Err (Unnamed parts.nodes)) (Ok parts))
    (Err (Refused Conductance))

-- any image: that, or the number of the rule that it was not opened by
abbrev pub outcome_of : Opening → Answer
outcome_of (opened parts) = judged_outcome parts
outcome_of (refused number) = Err (Refused number)

-- a netlist is written of sound parts alone
abbrev pub Ready : Answer → Type 0
Ready a = IfOk a Sound

-- the answer is the outcome of an opening. That it is ready follows, and is there for callers
pub record Answers (o : Opening) (a : Answer) : Type 0 where
  pub outcome : a ≡ outcome_of o
  pub ready : Ready a

-- ---- what is written of it

-- `unnamed `
abbrev pub unnamed_word : List ℕ
unnamed_word = 117 ∷ 110 ∷ 110 ∷ 97 ∷ 109 ∷ 101 ∷ 100 ∷ 32 ∷ []

-- the settings and the elements, or the one line that says why there is no netlist
abbrev pub beginning : Answer → List ℕ
beginning (Ok parts) = setting_lines parts ++ element_lines parts parts.element_count
beginning (Err (Refused number)) = refused_line (number_of number)
beginning (Err (Unnamed nodes)) = named_line unnamed_word nodes

-- the curves that come after it, and how many there are
abbrev pub curves_of : Answer → List Curve
curves_of (Ok parts) = take parts.curve_count parts.curves
curves_of (Err reason) = []

abbrev pub curves_after : Answer → ℕ
curves_after (Ok parts) = parts.curve_count
curves_after (Err reason) = 0
