use Rattle.ohms.proofs.FoundLaws.{stage_far}
use Rattle.netlist.proofs.LineLaws.{other_kind}
use Rattle.netlist.proofs.line.plain_line.Goals as goal

pub returns-in_default : goal.returns-in_default
returns-in_default c = rw (other_kind c.args.kind c.in_default.not-Diode, c.element_line-in_default.ensures, c.stage.ensures, c.worth_at.ensures, c.value_place-at.ensures, stage_far)
