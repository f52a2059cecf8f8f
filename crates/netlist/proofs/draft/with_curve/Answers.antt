use Rattle.netlist.specs.Draft.{with_curve}
use Rattle.netlist.specs.Kept.{kept_header}
use Rattle.netlist.proofs.KeptDrafts.{fields_kept}
use borrow.Author.Rules.{rules}
use Rattle.netlist.proofs.draft.with_curve.Goals as goal

pub returns : goal.returns
unfolding with_curve kept_header
returns c =
    let k = fields_kept c.args.parts (search rules) in
    rw (c.counted.ensures, c.set_at-more.ensures, k.nodes, k.driven, k.output, k.rate, k.element_count)
