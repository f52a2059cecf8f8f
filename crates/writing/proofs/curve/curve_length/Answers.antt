use mathlib.Core.Path.{sym, ◌∙◌}
use Rattle.writing.proofs.Overlaying.{curve_length_lem}
use Rattle.writing.proofs.curve.curve_length.Goals as goal

pub returns : goal.returns
returns c =
    let m = c.curve_length.ensures in
    (m ∙ sym (curve_length_lem c.args.c.now), m)
