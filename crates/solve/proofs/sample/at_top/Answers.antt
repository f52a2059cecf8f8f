use Rattle.std.proofs.Common.{ℕ, ◌+◌, pos, rules}
use borrow.Author.Tests.{tests}
use mathlib.Core.Path.{refl}
use lib.Signed.{◌≤ℤ◌, ◌<ℤ◌}
use Rattle.std.proofs.lemmas.Iterator.{YieldsList-from_range, cases_from_any}
use Rattle.units.specs.Voltage.{voltage_limit}
use Rattle.network.specs.Network.{reading}
use Rattle.solve.proofs.SampleLaws.{top_tested}
use Rattle.solve.proofs.sample.at_top.Goals as goal

pub returns : goal.returns
returns c =
    let volts = c.args.volts.now in
    let any = cases_from_any _ _ c.any.result (λ (i : ℕ). pos voltage_limit ≤ℤ reading volts i) (λ (i : ℕ). reading volts i <ℤ pos voltage_limit) c.any.ensures.ran (YieldsList-from_range (c.driven.result + 1) (c.nodes-nodes.result + 1) _ refl refl) (λ x q k. search (rules, tests)) (λ x q k. search (rules, tests)) in
    top_tested c.args.circuit.now.board volts c.any.result (rw (c.driven.ensures, c.nodes-nodes.ensures) at any)
