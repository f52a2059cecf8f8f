use mathlib.Core.Path.{◌≡◌, sym, ◌∙◌}
use mathlib.Core.Bool.{true}
use Rattle.image.specs.Conductance.{conductances_fit}
use Rattle.image.specs.Setting.{plain}
use Rattle.image.proofs.Sound.{in_limits}
use Rattle.opening.proofs.BoardIs.{ready}
use Rattle.bench_circuit.proofs.ask.of_parts.Goals as goal

pub of_board-requires : goal.of_board-requires
of_board-requires c =
    let fits : conductances_fit c.args.parts plain ≡ true = sym c.conductances_fit.ensures ∙ c.if-not-conductances_fit.false in
    rw (c.fill.ensures.board, c.fill.ensures.stretches) (ready c.args.parts plain c.requires (in_limits c.args.parts plain c.requires fits))
