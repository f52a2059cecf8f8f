use mathlib.Core.Path.{◌≡◌, refl, sym, ◌∙◌, ap}
use Prim.Native.Nat.{◌<◌}
use native.Mathlib.Omega.{arith}
use mir.Syntax.{w64}
use mir.Val.{to_z, of_z}
use borrow.Author.Count.{below_more}
use borrow.Author.Tests.{leb-true, leb-false}
use borrow.Author.Rules.{rules}
use Rattle.units.specs.Voltage.{within}
use Rattle.network.specs.Network.{next, reading, stored_limit}
use Rattle.circuit.specs.Board.{count_on, network_on}
use Rattle.circuit.proofs.BoardLaws.{few_elements}
use Rattle.circuit.proofs.AdvanceLaws.{next_is, stored_more}
use Rattle.circuit.proofs.Circuit.advance.Goals as goal

pub returns-then-not-is_kept : goal.returns-then-not-is_kept
returns-then-not-is_kept c =
    let there : c.loop-j.j < count_on c.args.self.now.board = omega (arith, c.loop-j-test.true, c.count-count.ensures) in
    let as_it_was : reading c.loop-j.stored c.loop-j.j ≡ reading c.args.stored.now c.loop-j.j = c.loop-j.invariant.2.old c.loop-j.j (omega arith) in
    let at_next : (to_z w64 (of_z w64 c.next_stored-x.result) ≡ next (network_on c.args.self.now.board c.args.self.now.stretches) (reading c.args.stored.now) (reading c.args.volts.now) c.loop-j.j) = let z = reading c.loop-j.stored c.loop-j.j in let e : to_z w64 (of_z w64 z) ≡ z = search rules in let f : to_z w64 (of_z w64 c.next_stored-x.result) ≡ c.next_stored-x.result = search rules in f ∙ c.next_stored-x.ensures ∙ next_is c.args.self.now.board c.args.self.now.stretches c.args.volts.now c.args.stored.now c.loop-j.j _ (e ∙ as_it_was) in
    let tested : (c.is_kept.result ≡ within stored_limit (next (network_on c.args.self.now.board c.args.self.now.stretches) (reading c.args.stored.now) (reading c.args.volts.now) c.loop-j.j)) = c.is_kept.ensures ∙ ap (within stored_limit) at_next in
    ((c.loop-j.j, there, leb-false _ _ (sym tested ∙ c.if-not-is_kept.true)), refl)

pub loop-j-preserved : goal.loop-j-preserved
loop-j-preserved c =
    let as_it_was : reading c.loop-j.stored c.loop-j.j ≡ reading c.args.stored.now c.loop-j.j = c.loop-j.invariant.2.old c.loop-j.j (omega arith) in
    let at_next : (to_z w64 (of_z w64 c.next_stored-x.result) ≡ next (network_on c.args.self.now.board c.args.self.now.stretches) (reading c.args.stored.now) (reading c.args.volts.now) c.loop-j.j) = let z = reading c.loop-j.stored c.loop-j.j in let e : to_z w64 (of_z w64 z) ≡ z = search rules in let f : to_z w64 (of_z w64 c.next_stored-x.result) ≡ c.next_stored-x.result = search rules in f ∙ c.next_stored-x.ensures ∙ next_is c.args.self.now.board c.args.self.now.stretches c.args.volts.now c.args.stored.now c.loop-j.j _ (e ∙ as_it_was) in
    let tested : (c.is_kept.result ≡ within stored_limit (next (network_on c.args.self.now.board c.args.self.now.stretches) (reading c.args.stored.now) (reading c.args.volts.now) c.loop-j.j)) = c.is_kept.ensures ∙ ap (within stored_limit) at_next in
    let there : c.loop-j.j < count_on c.args.self.now.board = omega (arith, c.loop-j-test.true, c.count-count.ensures) in
    let element : c.loop-j.j < 32 = omega (arith, there, few_elements _ _ c.requires.0.ready.laid) in
    let n = c.loop-j in (
      omega (arith, c.loop-j-test.true),
      below_more _ _ n.invariant.1 (leb-true _ _ (sym tested ∙ c.if-not-is_kept.false)),
      stored_more c.args.self.now.board c.args.self.now.stretches c.args.volts.now c.args.stored.now n.j n.stored _ (omega (arith, element, c.requires.1)) at_next n.invariant.2,
    )
