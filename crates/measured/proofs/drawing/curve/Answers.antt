use mathlib.Core.Path.{sym, ◌∙◌}
use Rattle.measured.specs.Measured.{measured}
use Rattle.measured.proofs.drawing.curve.Goals as goal

pub returns-then-not-fit : goal.returns-then-not-fit
unfolding measured
returns-then-not-fit c =
    let no = sym c.fit.ensures ∙ c.if-not-fit.true in
    rw no

pub returns : goal.returns
unfolding measured
returns c =
    let yes = sym c.fit.ensures ∙ c.if-not-fit.false in
    c.draw.ensures ∙ rw yes
