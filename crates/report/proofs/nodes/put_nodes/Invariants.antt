use Prim.Native.Nat.{◌*◌, ◌-◌, ◌≤◌}
use Rattle.circuit.specs.Board.{driven_on, network_on}
use Rattle.console.specs.Text.{Puts}
use Rattle.report.specs.Nodes.{node_lines}
use Rattle.report.proofs.nodes.put_nodes.Given as goal

abbrev pub invariant-loop-k : goal.invariant-loop-k
invariant-loop-k l = (l.k ≤ l.nodes) × (driven_on l.circuit.board ≤ l.k) × Puts (node_lines (network_on l.circuit.board l.circuit.stretches) (l.k - driven_on l.circuit.board)) (84 * (l.k - driven_on l.circuit.board)) l.initial.text l.text
