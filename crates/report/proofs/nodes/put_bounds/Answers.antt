use native.Mathlib.Omega.{arith}
use borrow.Author.Rules.{rules}
use Rattle.circuit.specs.Board.{network_on, Laid}
use Rattle.console.proofs.TextLaws.{puts_then, adds_within}
use Rattle.report.specs.Nodes.{Bounds}
use Rattle.report.proofs.NodeLaws.{laid_is, network_of_lem}
use Rattle.report.proofs.nodes.put_bounds.Goals as goal

pub put_nodes-requires : goal.put_nodes-requires
put_nodes-requires c =
    let on-board : Laid c.fill.new.circuit.board c.fill.new.circuit.stretches = laid_is c.args.parts _ _ c.requires.0 c.fill.ensures.board c.fill.ensures.stretches c.requires.1 in
    (on-board, search rules)

pub greatest-requires : goal.greatest-requires
greatest-requires c =
    let on-board : Laid c.fill.new.circuit.board c.fill.new.circuit.stretches = laid_is c.args.parts _ _ c.requires.0 c.fill.ensures.board c.fill.ensures.stretches c.requires.1 in
    on-board

pub returns : goal.returns
returns c =
    let last = puts_then c.put_nodes.ensures c.put_named.ensures in
    let adds = rw (c.new-text.ensures.end, c.new-text.ensures.bytes) at last.adds in
    let most = c.greatest in
    let board = c.fill.new.circuit.board in
    let stretches = c.fill.new.circuit.stretches in
    let bounds : Bounds (network_on board stretches) _ _ _ = record { most = most.result; is_greatest = most.ensures; text = adds_within {n = 4096} (omega arith) adds } in
    let on-parts = rw (network_of_lem c.args.parts board stretches c.requires.0 c.fill.ensures.board c.fill.ensures.stretches) at bounds in
    (search rules, omega (arith, adds.short, adds.moved))
