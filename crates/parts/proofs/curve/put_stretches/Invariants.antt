use Prim.Native.Nat.{◌*◌}
use Rattle.units.specs.Table.{in_turn}
use Rattle.console.specs.Text.{Puts}
use Rattle.parts.specs.Netlist.{stretch}
use Rattle.parts.proofs.curve.put_stretches.Given as goal

abbrev pub invariant-loop-j : goal.invariant-loop-j
invariant-loop-j l = Puts (in_turn (stretch l.slopes l.breakpoints) l.j) (44 * l.j) l.initial.text l.text
