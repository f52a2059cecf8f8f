-- What the program `curve` writes of a measured list: its curve, or the number of a refusal. Assumes nothing.
use Rattle.std.specs.Prelude.{List, ℕ, Result, Ok, Err}
use Rattle.image.specs.declared.parts.Curve.{Curve}
use Rattle.console.specs.Text.{refused_line}
use Rattle.measured.specs.Measured.{number_of}
use Rattle.measured.specs.declared.drawing.Refusal.{Refusal}
use Rattle.report.specs.Curve.{curve_lines}

unfoldable pub answer_to : Result Curve Refusal → List ℕ
answer_to (Ok c) = curve_lines c
answer_to (Err refusal) = refused_line (number_of refusal)
