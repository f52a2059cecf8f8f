use Rattle.std.proofs.Common.{arith}
use Rattle.circuit.proofs.BoardLaws.{few_nodes, other_node}
use Rattle.guess.proofs.slide.leaving.Goals as goal

pub float_at-requires : goal.float_at-requires
float_at-requires c = omega (arith, c.other.ensures, other_node _ _ c.requires.0.ready.laid c.args.end c.requires.1, few_nodes _ _ c.requires.0.ready.laid)
