use Prim.Native.Nat.{◌*◌}
use Rattle.console.specs.Text.{Puts}
use Rattle.report.specs.Parts.{element_lines}
use Rattle.report.proofs.parts.put_elements.Given as goal

abbrev pub invariant-loop-e : goal.invariant-loop-e
invariant-loop-e l = Puts (element_lines l.parts l.e-index) (86 * l.e-index) l.initial.text l.text
