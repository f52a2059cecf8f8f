use Rattle.curve.proofs.KeptLaws.{reads_other}
use Rattle.curve.proofs.pairs.read_line.Goals as goal

pub returns-in-Other : goal.returns-in-Other
returns-in-Other c = rw (← c.in-Other.ensures) (reads_other c.args.kept)
