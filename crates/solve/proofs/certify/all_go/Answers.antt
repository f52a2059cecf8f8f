use Rattle.std.proofs.Common.{pos, ◌+◌, ℕ, arith, rules}
use borrow.Author.Tests.{tests}
use mathlib.Core.Path.{refl}
use Rattle.std.specs.Bool.{⊤}
use lib.Signed.{◌<ℤ◌}
use Rattle.std.proofs.lemmas.Iterator.{YieldsList-from_range, cases_from_all}
use Rattle.network.specs.Network.{reading}
use Rattle.solve.proofs.RangeLaws.{each_of}
use Rattle.solve.proofs.certify.all_go.Goals as goal

pub returns : goal.returns
returns c = λ e i above there.
    let a = c.args in
    let go : ℕ → Type 0 = λ (i : ℕ). reading a.volts.now i <ℤ reading a.up.now.volts i → pos 0 <ℤ reading a.up.now.nets i in
    let first = c.driven.result + 1 in
    let end = c.nodes-nodes.result + 1 in
    let all = cases_from_all _ _ c.all.result go (λ (i : ℕ). ⊤) c.all.ensures.ran (YieldsList-from_range first end _ refl refl) (λ x q k. search (rules, tests)) (λ x q k. tt) in
    each_of go first end (rw e at all) i (omega (arith, c.driven.ensures)) (omega (arith, c.nodes-nodes.ensures))
