use Rattle.std.proofs.Common.{◌+◌, ◌<◌, arith}
use Rattle.circuit.specs.Board.{start_on}
use Rattle.circuit.proofs.NodeLaws.{place_fits, end_element}
use Rattle.guess.proofs.slide.line.Goals as goal

pub end-requires : goal.end-requires
end-requires c =
    let there : c.loop-k.k < start_on c.args.circuit.now.board (c.args.node + 1) = omega (arith, c.start-after.ensures) in
    place_fits _ _ c.requires.0.ready.laid c.args.node c.requires.1 c.loop-k.k c.loop-k.invariant there

pub leaving-t-requires : goal.leaving-t-requires
leaving-t-requires c =
    let there : c.loop-k.k < start_on c.args.circuit.now.board (c.args.node + 1) = omega (arith, c.start-after.ensures) in
    (c.requires.0, rw c.end.ensures (end_element _ _ c.requires.0.ready.laid c.args.node c.requires.1 c.loop-k.k c.loop-k.invariant there))
