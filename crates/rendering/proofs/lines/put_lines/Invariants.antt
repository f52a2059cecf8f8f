use Prim.Native.Nat.{◌*◌}
use Rattle.console.specs.Text.{Puts}
use Rattle.block.specs.Host.{output_at}
use Rattle.rendering.specs.Rendering.{lines}
use Rattle.rendering.proofs.lines.put_lines.Given as goal

abbrev pub invariant-loop-j : goal.invariant-loop-j
invariant-loop-j l = Puts (lines (output_at l.outputs) l.j) (22 * l.j) l.initial.text l.text
