use mathlib.Core.Path.{◌≡◌}
use Prim.Native.Nat.{◌+◌, ◌≤◌}
use lib.IntN.{pos}
use Rattle.circuit.specs.Board.{leak_on, nodes_on}
use Rattle.circuit.proofs.NetLaws.{LeakedTo}
use Rattle.circuit.proofs.Circuit.leaked.Given as goal

abbrev pub invariant-loop-i : goal.invariant-loop-i
invariant-loop-i l = (l.i ≤ l.nodes + 1) × (l.nodes ≡ nodes_on l.self.board) × (l.leak ≡ pos (leak_on l.self.board)) × LeakedTo l.self.board l.volts l.i l.nets
