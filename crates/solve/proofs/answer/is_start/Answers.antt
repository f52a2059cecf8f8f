use Rattle.std.proofs.Common.{pos, ◌+◌, ℕ, arith, rules}
use borrow.Author.Tests.{tests}
use mathlib.Core.Path.{refl}
use Rattle.std.specs.Bool.{⊤}
use lib.Signed.{◌≤ℤ◌}
use Rattle.std.proofs.lemmas.Iterator.{YieldsList-from_range, cases_from_all}
use Rattle.network.specs.Network.{reading, net}
use Rattle.circuit.specs.Board.{network_on}
use Rattle.solve.proofs.RangeLaws.{each_of}
use Rattle.solve.proofs.answer.is_start.Goals as goal

pub returns : goal.returns
returns c = λ e i free.
    let a = c.args in
    let over : ℕ → Type 0 = λ (i : ℕ). pos 0 ≤ℤ net 1 (network_on a.circuit.now.board a.circuit.now.stretches) (reading a.stored.now) (reading a.volts.now) i in
    let first = c.driven.result + 1 in
    let end = c.nodes-nodes.result + 1 in
    let all = cases_from_all _ _ c.all.result over (λ (i : ℕ). ⊤) c.all.ensures.ran (YieldsList-from_range first end _ refl refl) (λ x q k. search (rules, tests)) (λ x q k. tt) in
    each_of over first end (rw e at all) i (omega (arith, c.driven.ensures, free.0)) (omega (arith, c.nodes-nodes.ensures, free.1))
