use mathlib.Core.Path.{◌≡◌, refl, sym, ◌∙◌, ap}
use mathlib.Core.List.{List}
use Prim.Native.Nat.{ℕ, suc, ◌+◌, ◌≤◌}
use native.Mathlib.Numerals.{add-one}
use native.Mathlib.Omega.{arith}
use lib.ListN.{length}
use Rattle.units.specs.Table.{overlaid}
use Rattle.network.specs.Network.{Network}
use Rattle.network.specs.Elements.{elements_at}
use Rattle.circuit.specs.Index.{ends_at, ends_below}
use Rattle.circuit.specs.Board.{nodes_on, network_on}
use Rattle.circuit.proofs.IndexLaws.{ends_none, ends_long}
use Rattle.circuit.proofs.FillingLaws.{network_same, filling_none, filling_more, next_fits, filled}
use Rattle.circuit.proofs.Circuit.fill_index.Goals as goal

pub loop-i-init : goal.loop-i-init
loop-i-init c =
    (sym (ap (λ (l : List ℕ). length l) (ends_none (network_on c.args.self.now.board c.args.self.now.stretches))), filling_none c.args.self.now.board c.args.self.now.stretches c.requires, refl)

pub put_ends-k-requires : goal.put_ends-k-requires
put_ends-k-requires c =
    let same : network_on c.loop-i.self.board c.loop-i.self.stretches ≡ network_on c.args.self.now.board c.args.self.now.stretches = let so = c.loop-i.invariant.1 in ap (network_on c.loop-i.self.board) c.loop-i.invariant.2 ∙ network_same c.loop-i.self.board c.args.self.now.board c.args.self.now.stretches (λ m h. so.head m (omega arith)) so.elements in
    let n = c.loop-i in
    let N = network_on c.args.self.now.board c.args.self.now.stretches in (
      omega (arith, n.invariant.1.head 3 (omega arith), c.requires.limits.few_branches),
      omega (arith, n.invariant.0, ap (λ (M : Network). length (elements_at M n.i)) same, next_fits N n.i c.requires.limits.few_branches),
    )

pub loop-i-preserved : goal.loop-i-preserved
loop-i-preserved c =
    let same : network_on c.loop-i.self.board c.loop-i.self.stretches ≡ network_on c.args.self.now.board c.args.self.now.stretches = let so = c.loop-i.invariant.1 in ap (network_on c.loop-i.self.board) c.loop-i.invariant.2 ∙ network_same c.loop-i.self.board c.args.self.now.board c.args.self.now.stretches (λ m h. so.head m (omega arith)) so.elements in
    let few : c.loop-i.i ≤ 15 = omega (arith, c.loop-i-test.true, c.nodes-nodes.ensures, c.requires.limits.few_nodes) in
    let n = c.loop-i in
    let N = network_on c.args.self.now.board c.args.self.now.stretches in
    let is : c.put_ends-k.result ≡ length (ends_below N n.i) + length (elements_at N n.i) = omega (arith, c.put_ends-k.ensures.1, ap (λ (M : Network). length (elements_at M n.i)) same, n.invariant.0) in
    let written = c.put_ends-k.ensures.0 ∙ ap (λ (M : Network). overlaid n.self.board (37 + n.k) (ends_at M n.i)) same ∙ ap (λ (m : ℕ). overlaid n.self.board (37 + m) (ends_at N n.i)) n.invariant.0 in (
      is ∙ sym (ends_long N n.i) ∙ ap (λ (m : ℕ). length (ends_below N m)) (sym (add-one n.i)),
      rw (add-one n.i, written) (filling_more N c.args.self.now.board n.self.board n.i n.invariant.1 few c.requires.limits.few_branches c.requires.long c.put_ends-k.result is),
      c.put_ends-k.ensures.2 ∙ n.invariant.2,
    )

pub returns : goal.returns
returns c =
    let n = c.loop-i in
    let N = network_on c.args.self.now.board c.args.self.now.stretches in
    let e : n.i ≡ suc (nodes_on c.args.self.now.board) = omega (arith, c.nodes-nodes.ensures) in
    record { board = filled N c.args.self.now.board n.self.board (rw e at n.invariant.1) c.requires.long; stretches = n.invariant.2 }
