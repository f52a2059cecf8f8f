use native.Mathlib.Omega.{arith}
use Rattle.network.proofs.Hold.{leak_held}
use Rattle.network.proofs.Ranges.{held_fits, steepest_fits}
use Rattle.circuit.specs.Board.{network_on}
use Rattle.console.proofs.TextLaws.{puts_then}
use Rattle.report.proofs.nodes.put_node.Goals as goal

pub rounded_up-least-requires : goal.rounded_up-least-requires
rounded_up-least-requires c =
    let N = network_on c.args.circuit.now.board c.args.circuit.now.stretches in
    let limits = c.requires.0.limits in
    let held = c.held-held.ensures in
    (omega (arith, held, leak_held N c.args.i, limits.leaks), omega (arith, held, c.steepest-steepest.ensures, held_fits N limits c.args.i, steepest_fits N limits c.args.i))

pub returns : goal.returns
returns c =
    let held = c.held-held.ensures in
    let steepest = c.steepest-steepest.ensures in
    let second = rw held at c.put_column-2.ensures in
    let third = rw steepest at c.put_column-3.ensures in
    let fourth = rw (c.rounded_up-least.ensures, held, steepest) at c.put_last.ensures in
    puts_then c.put_column.ensures (puts_then second (puts_then third fourth))
