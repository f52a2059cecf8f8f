use mathlib.Core.Path.{◌≡◌, sym, ◌∙◌}
use mathlib.Core.Bool.{true, false}
use Rattle.network.specs.Kind.{has_curve}
use Rattle.circuit.specs.Board.{kind_on}
use Rattle.circuit.proofs.BoardLaws.{curve_steepest, conductance_steepest}
use Rattle.circuit.proofs.Circuit.steepest_slope.Goals as goal

pub returns-then-has_curve : goal.returns-then-has_curve
returns-then-has_curve c =
    let curved : has_curve (kind_on c.args.self.now.board c.args.j) ≡ true = rw c.kind.ensures at (sym c.has_curve.ensures ∙ c.if-has_curve.true) in
    (rw (c.curve.ensures.0, c.curve.ensures.1, c.curve.ensures.2) at c.steepest.ensures) ∙ curve_steepest c.args.self.now.board c.args.self.now.stretches c.args.j curved

pub returns : goal.returns
returns c =
    let straight : has_curve (kind_on c.args.self.now.board c.args.j) ≡ false = rw c.kind.ensures at (sym c.has_curve.ensures ∙ c.if-has_curve.false) in
    c.conductance.ensures ∙ conductance_steepest c.args.self.now.board c.args.self.now.stretches c.args.j straight
