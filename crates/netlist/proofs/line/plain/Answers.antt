use mathlib.Core.Path.{refl, sym, ◌∙◌}
use Rattle.netlist.specs.Line.{plain_line}
use Rattle.netlist.proofs.LineLaws.{right_said, plain_whole}
use Rattle.netlist.proofs.line.plain.Goals as goal

pub returns : goal.returns
returns c =
    let a = c.args in
    rw c.plain_line.ensures
    (right_said _ (plain_line a.kind a.s.now) (plain_whole a.kind a.s.now)
    (record {
      heads = sym c.headed.ensures ∙ c.if-not-headed.false;
      value = rw c.value_place.ensures at (sym c.ends.ensures ∙ c.if-not-ends.false);
      says = refl;
    }))
