use Rattle.std.proofs.Common.{◌∙◌}
use Rattle.netlist.proofs.TextLaws.{feed_off, feed_none}
use Rattle.netlist.proofs.reader.line_in.Goals as goal

pub returns-in-Some : goal.returns-in-Some
returns-in-Some c =
    let there = c.in-Some.ensures.cases in
    there.1 ∙ feed_off c.args.piece.now c.requires there.0

pub returns-in-None : goal.returns-in-None
returns-in-None c = feed_none c.args.piece.now c.requires c.in-None.ensures.cases
