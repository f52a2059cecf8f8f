use mathlib.Core.Path.{◌≡◌}
use Prim.Native.Nat.{◌+◌, ◌≤◌}
use lib.ListN.{length}
use Rattle.circuit.specs.Board.{nodes_on, Evaluable}
use Rattle.circuit.specs.Nets.{Netted}
use Rattle.bench_circuit.proofs.show.move_all.Given as goal

abbrev pub invariant-loop-i : goal.invariant-loop-i
invariant-loop-i l = (l.i ≤ l.nodes + 1) × (l.nodes ≡ nodes_on l.circuit.board) × Evaluable l.circuit.board l.circuit.stretches l.stored l.at × (length l.at ≡ 16) × Netted l.circuit.board l.circuit.stretches l.stored l.at l.nets
