use Rattle.circuit.proofs.BoardLaws.{ends}
use Rattle.guess.proofs.tangent.of_curve.Goals as goal

pub across-requires : goal.across-requires
across-requires c = ends _ _ c.requires.0 c.args.j c.requires.2 _ c.requires.1
