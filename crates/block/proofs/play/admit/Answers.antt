use Rattle.std.proofs.Common.{◌≡◌, Err, sym, ◌∙◌, rules}
use Rattle.block.proofs.PlayLaws.{admission_refused, admission_done, admission_conductance}
use Rattle.block.proofs.play.admit.Goals as goal

pub returns-in_err-parts : goal.returns-in_err-parts
returns-in_err-parts c =
    let refused : c.from_residual.result ≡ Err c.in_err-parts.field-0.0 = search rules in
    rw refused (admission_refused _ _ c.in_err-parts.ensures)

pub returns-then-not-conductances_fit : goal.returns-then-not-conductances_fit
returns-then-not-conductances_fit c = admission_conductance _ _ c.in_ok-parts.ensures (sym c.conductances_fit.ensures ∙ c.if-not-conductances_fit.true)

pub returns : goal.returns
returns c = admission_done _ _ c.in_ok-parts.ensures (sym c.conductances_fit.ensures ∙ c.if-not-conductances_fit.false)
