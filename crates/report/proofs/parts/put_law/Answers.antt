use mathlib.Core.Path.{sym, ◌∙◌}
use native.Mathlib.Omega.{arith}
use Rattle.console.proofs.TextLaws.{puts_then, puts_within}
use Rattle.report.specs.Parts.{law_columns}
use Rattle.report.proofs.parts.put_law.Goals as goal

pub returns-then-has_curve : goal.returns-then-has_curve
unfolding law_columns
returns-then-has_curve c = rw (sym c.has_curve.ensures ∙ c.if-has_curve.true) (puts_within (omega arith) c.put_last.ensures)

pub returns : goal.returns
unfolding law_columns
returns c = rw (sym c.has_curve.ensures ∙ c.if-has_curve.false) (puts_then c.put_column.ensures (rw c.conductance.ensures at c.put_last-2.ensures))
