use Rattle.std.proofs.Common.{ℕ, ◌<◌, nat_abs, rules}
use borrow.Author.Tests.{tests}
use mathlib.Core.Path.{refl}
use Rattle.std.proofs.lemmas.Iterator.{YieldsList-from_range, cases_from_all}
use Rattle.units.specs.Voltage.{drive_limit, InDrive}
use Rattle.solve.specs.Answer.{drives_at}
use Rattle.solve.proofs.SampleLaws.{drives_tested}
use Rattle.solve.proofs.sample.drives_legal.Goals as goal

pub returns : goal.returns
returns c =
    let volts = c.args.volts.now in
    let all = cases_from_all _ _ c.all.result (λ (j : ℕ). InDrive (drives_at volts j)) (λ (j : ℕ). drive_limit < nat_abs (drives_at volts j)) c.all.ensures.ran (YieldsList-from_range 0 c.driven.result _ refl refl) (λ x q k. search (rules, tests)) (λ x q k. search (rules, tests)) in
    drives_tested c.args.circuit.now.board volts c.all.result (rw c.driven.ensures at all)
