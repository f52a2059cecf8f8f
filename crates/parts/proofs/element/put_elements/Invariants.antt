use Prim.Native.Nat.{◌*◌}
use Rattle.console.specs.Text.{Puts}
use Rattle.parts.specs.Netlist.{element_lines}
use Rattle.parts.proofs.element.put_elements.Given as goal

abbrev pub invariant-loop-j : goal.invariant-loop-j
invariant-loop-j l = Puts (element_lines l.fn.parts l.j) (85 * l.j) l.initial.text l.text
