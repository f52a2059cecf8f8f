use native.Mathlib.Omega.{arith}
use Rattle.circuit.specs.Board.{network_on}
use Rattle.report.proofs.NodeLaws.{nodes_none, nodes_more}
use borrow.Author.Rules.{rules}
use Rattle.report.proofs.nodes.put_nodes.Goals as goal

pub loop-k-init : goal.loop-k-init
loop-k-init c =
    let d = c.driven-k.ensures in
    (omega (arith, d, c.nodes-nodes.ensures, c.requires.0.limits.wired.driven_there), omega (arith, d), nodes_none (network_on c.args.circuit.now.board c.args.circuit.now.stretches) d)

pub loop-k-preserved : goal.loop-k-preserved
loop-k-preserved c =
    let l = c.loop-k.invariant in
    let p = c.put_node in
    (search rules, search rules, nodes_more (network_on c.args.circuit.now.board c.args.circuit.now.stretches) _ l.1 l.2 p.ensures)
