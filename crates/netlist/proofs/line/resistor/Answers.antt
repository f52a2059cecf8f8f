use mathlib.Core.Path.{refl, sym, ◌∙◌}
use lib.ListN.{length}
use Rattle.network.specs.declared.kind.Kind.TheVariants as kinds
use Rattle.ohms.proofs.Promise.{value_once}
use Rattle.netlist.specs.Line.{value_place, element_line, ResistorLine}
use Rattle.netlist.proofs.LineLaws.{right_said, element_whole}
use Rattle.netlist.proofs.line.resistor.Goals as goal

pub returns-in-Some : goal.returns-in-Some
returns-in-Some c =
    let s = c.args.s.now in
    let found = c.in-Some.found in
    let v = rw c.value_place.ensures at c.in-Some.ensures in
    let says : ResistorLine s (element_line kinds.Resistor 0 s found.worth) = record {
      heads = sym c.headed.ensures ∙ c.if-not-headed.false;
      worth = found.worth;
      value = rw c.if-found-s.true at v;
      says = refl;
    } in
    rw c.element_line.ensures (right_said (ResistorLine s) (element_line kinds.Resistor 0 s found.worth) (element_whole kinds.Resistor 0 s found.worth) says)

pub returns-in_default : goal.returns-in_default
returns-in_default c =
    let s = c.args.s.now in
    let v = rw c.value_place.ensures at c.in-Some.ensures in
    λ y says. c.if-found-s.false (value_once s (value_place s) _ (length s) _ says.worth v says.value).0

pub returns-in_default-2 : goal.returns-in_default-2
returns-in_default-2 c =
    let none = rw c.value_place.ensures at c.in_default.ensures in
    λ y says. none (length c.args.s.now) says.worth says.value
