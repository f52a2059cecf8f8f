use mathlib.Core.Path.{refl, sym, ◌∙◌}
use Rattle.console.specs.Number.{worth_at}
use Rattle.netlist.specs.Line.{after_name}
use Rattle.netlist.specs.declared.said.Line.TheVariants as line
use Rattle.netlist.proofs.line.setting.Goals as goal

pub returns : goal.returns
returns c =
    let s = c.args.s.now in
    record {
      whole = line.Setting c.args.field (worth_at s (after_name s));
      meant = record { value = rw c.after_name-at.ensures at (sym c.ends.ensures ∙ c.if-not-ends.false); says = refl };
      kept = rw (c.word.ensures, c.after_name-at.ensures);
    }
