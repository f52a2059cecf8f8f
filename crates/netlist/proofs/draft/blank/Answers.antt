use Rattle.netlist.specs.Draft.{blank_draft}
use Rattle.netlist.proofs.draft.blank.Goals as goal

pub returns : goal.returns
unfolding blank_draft
returns c = rw (c.in_version-parts.ensures, c.no_parts.ensures)
