use Rattle.std.proofs.Common.{◌<◌, rules}
use Rattle.circuit.specs.Board.{count_on}
use Rattle.circuit.proofs.BoardLaws.{ends}
use Rattle.guess.proofs.lines.holds.Goals as goal

pub across-requires : goal.across-requires
across-requires c =
    let there : c.args.j < count_on c.args.circuit.now.board = search rules in
    ends _ _ c.requires.0 c.args.j there _ c.requires.1
