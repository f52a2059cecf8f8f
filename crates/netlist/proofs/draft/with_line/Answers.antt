use Rattle.netlist.specs.Draft.{with_setting, reparted, with_line}
use Rattle.netlist.proofs.KeptDrafts.{small_kept, noted_kept}
use borrow.Author.Rules.{rules}
use Rattle.netlist.proofs.draft.with_line.Goals as goal

pub returns-in-Broken : goal.returns-in-Broken
unfolding with_line
returns-in-Broken c = rw (c.in-Broken.is, small_kept c.args.draft.parts (search rules))

pub returns-in-Empty : goal.returns-in-Empty
unfolding with_line
returns-in-Empty c = rw (c.in-Empty.is, small_kept c.args.draft.parts (search rules))

pub returns-in-Outside : goal.returns-in-Outside
unfolding with_line
returns-in-Outside c = rw (c.in-Outside.is, small_kept c.args.draft.parts (search rules))

pub returns-in-Part : goal.returns-in-Part
unfolding with_line
returns-in-Part c = rw (c.in-Part.is, c.reparted.ensures, c.with_element.ensures)

pub returns-in-Setting : goal.returns-in-Setting
unfolding with_line
returns-in-Setting c = rw (c.in-Setting.is, c.noted.ensures, c.reparted-in-Setting.ensures, c.with_setting.ensures) (noted_kept (reparted c.args.draft (with_setting c.args.draft.parts c.in-Setting.field c.in-Setting.n)) c.in-Setting.field)

pub returns-in-Curve : goal.returns-in-Curve
unfolding with_line
returns-in-Curve c = rw (c.in-Curve.is, c.reparted-in-Curve.ensures, c.with_curve.ensures)
