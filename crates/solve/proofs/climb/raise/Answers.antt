use mathlib.Core.Path.{◌≡◌, ◌∙◌}
use Prim.Native.Nat.{ℕ, ◌<◌}
use lib.IntN.{ℤ}
use Rattle.network.specs.Network.{Free, reading}
use Rattle.circuit.specs.Board.{network_on}
use Rattle.solve.proofs.PlaceLaws.{changed_more, place_of, short_of, node_is, set_cases}
use native.Mathlib.Nat.{le_refl}
use native.Mathlib.Omega.{arith}
use borrow.Author.Rules.{rules}
use mir.Syntax.{w64}
use mir.Val.{to_z, of_z}
use Rattle.solve.proofs.climb.raise.Goals as goal

pub loop-i-preserved : goal.loop-i-preserved
loop-i-preserved c =
    let l = c.loop-i in
    let free : Free (network_on c.args.circuit.now.board c.args.circuit.now.stretches) c.loop-i.i = (omega (arith, c.driven-i.ensures), omega (arith, c.nodes-nodes.ensures)) in
    let f : to_z w64 (of_z w64 c.further-u.result) ≡ c.further-u.result = search rules in
    let there = rw (node_is l.invariant.0 free.1 ∙ l.invariant.2 l.i (le_refl l.i)) at c.further-u.ensures in (
      c.put.ensures.0,
      changed_more l.invariant.1 free.0 (place_of l.invariant.0 free.1) (rw f there.1) c.put.ensures.1,
      λ j above. rw c.put.ensures.1 (set_cases (λ (k : ℕ) (u : ℤ). c.loop-i.i < k → u ≡ reading c.args.high.now.volts k) l.high.volts l.i j _ (short_of l.invariant.0 free.1) (λ m. absurd (omega arith)) (λ n m. l.invariant.2 j (omega arith)) (omega arith)),
    )
