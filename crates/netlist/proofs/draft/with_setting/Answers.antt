use Rattle.netlist.specs.Draft.{with_setting}
use Rattle.netlist.specs.Kept.{most_word, kept_header}
use Rattle.netlist.proofs.KeptCurves.{fits, higher}
use Rattle.netlist.proofs.KeptDrafts.{fields_kept}
use borrow.Author.Rules.{rules}
use Rattle.netlist.proofs.draft.with_setting.Goals as goal

pub returns-in-Drives : goal.returns-in-Drives
unfolding with_setting kept_header
returns-in-Drives c =
    let k = fields_kept c.args.parts (search rules) in
    rw (c.in-Drives.is, c.narrow.ensures, k.nodes, k.output, k.rate, k.element_count, k.curve_count)

pub returns-in-Output : goal.returns-in-Output
unfolding with_setting kept_header
returns-in-Output c =
    let k = fields_kept c.args.parts (search rules) in
    rw (c.in-Output.is, c.max.ensures, c.narrow-node.ensures, higher, k.nodes, k.driven, k.rate, k.element_count, k.curve_count)

pub returns-in-Rate : goal.returns-in-Rate
unfolding with_setting kept_header
returns-in-Rate c =
    let k = fields_kept c.args.parts (search rules) in
    rw (c.in-Rate.is, fits c.args.n most_word (search rules), k.nodes, k.driven, k.output, k.element_count, k.curve_count)
