use mathlib.Core.Path.{◌≡◌, sym, ◌∙◌}
use mathlib.Core.Bool.{true}
use Rattle.image.specs.Conductance.{conductances_fit}
use Rattle.image.specs.Setting.{plain}
use Rattle.solve.specs.Sample.{Playable}
use Rattle.bench_solve.proofs.Opening.{first_playable}
use Rattle.bench_solve.proofs.play.opened.Goals as goal

pub once-requires : goal.once-requires
once-requires c =
    let fits : conductances_fit c.args.parts plain ≡ true = sym c.conductances_fit.ensures ∙ c.if-not-conductances_fit.false in
    let first : Playable c.circuit-circuit.result.board c.circuit-circuit.result.stretches c.charged-stored.result = first_playable c.args.parts _ _ _ c.requires fits c.circuit-circuit.ensures.board c.circuit-circuit.ensures.stretches c.charged-stored.ensures in
    first

pub samples-requires : goal.samples-requires
samples-requires c =
    let fits : conductances_fit c.args.parts plain ≡ true = sym c.conductances_fit.ensures ∙ c.if-not-conductances_fit.false in
    let first : Playable c.circuit-circuit.result.board c.circuit-circuit.result.stretches c.charged-stored.result = first_playable c.args.parts _ _ _ c.requires fits c.circuit-circuit.ensures.board c.circuit-circuit.ensures.stretches c.charged-stored.ensures in
    first
