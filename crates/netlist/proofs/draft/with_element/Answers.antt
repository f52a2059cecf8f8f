use Rattle.netlist.specs.Draft.{with_element}
use Rattle.netlist.specs.Kept.{most_byte, kept_header}
use Rattle.netlist.proofs.KeptCurves.{fits, higher}
use Rattle.netlist.proofs.KeptDrafts.{fields_kept}
use borrow.Author.Rules.{rules}
use Rattle.netlist.proofs.draft.with_element.Goals as goal

pub returns : goal.returns
unfolding with_element kept_header
returns c =
    let e = c.args.e in
    let k = fields_kept c.args.parts (search rules) in
    rw (c.max-2.ensures, c.max.ensures, c.counted.ensures, c.set_at-more.ensures, higher, higher, k.nodes, fits e.p most_byte (search rules), fits e.q most_byte (search rules), k.driven, k.output, k.rate, k.curve_count)
