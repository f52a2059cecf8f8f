use mathlib.Core.Path.{◌≡◌, refl, sym, ◌∙◌, ap}
use mathlib.Core.Bool.{cond}
use mathlib.Core.List.{List, [], ◌∷◌, map}
use Prim.Native.Nat.{ℕ, ◌+◌, ◌<◌}
use native.Mathlib.Omega.{arith}
use Rattle.units.specs.Table.{numbers_where, overlaid}
use Rattle.network.specs.Network.{Network}
use Rattle.network.specs.Elements.{touches}
use Rattle.circuit.specs.Index.{end_number}
use Rattle.circuit.specs.Board.{count_on, network_on}
use Rattle.circuit.proofs.FillingLaws.{ends_to, room, listed_none, listed_more, listed_many, listed_same}
use Rattle.circuit.proofs.Circuit.put_ends.Goals as goal

pub loop-j-init : goal.loop-j-init
unfolding numbers_where
loop-j-init c = (omega arith, listed_none (network_on c.args.self.now.board c.args.self.now.stretches) c.args.i c.args.at c.args.self.now.board, refl)

pub put_end-k-requires : goal.put_end-k-requires
put_end-k-requires c =
    let there : c.loop-j.j < count_on c.args.self.now.board = omega (arith, c.loop-j-test.true, c.count-count.ensures) in
    let same : network_on c.loop-j.self.board c.loop-j.self.stretches ≡ network_on c.args.self.now.board c.args.self.now.stretches = let n = c.loop-j in ap (network_on n.self.board) n.invariant.2 ∙ ap (λ (b : List ℕ). network_on b c.args.self.now.stretches) n.invariant.1 ∙ listed_same (network_on c.args.self.now.board c.args.self.now.stretches) c.args.i c.args.at c.args.self.now.board n.j c.args.self.now.stretches c.requires.1 (omega (arith, there)) in
    let n = c.loop-j in
    (omega (arith, there, c.requires.0), λ e. omega (arith, n.invariant.0, room (network_on c.args.self.now.board c.args.self.now.stretches) c.args.i c.args.at n.j c.requires.1 there (sym (ap (λ (M : Network). touches M c.args.i n.j) same) ∙ e)))

pub loop-j-preserved : goal.loop-j-preserved
loop-j-preserved c =
    let there : c.loop-j.j < count_on c.args.self.now.board = omega (arith, c.loop-j-test.true, c.count-count.ensures) in
    let same : network_on c.loop-j.self.board c.loop-j.self.stretches ≡ network_on c.args.self.now.board c.args.self.now.stretches = let n = c.loop-j in ap (network_on n.self.board) n.invariant.2 ∙ ap (λ (b : List ℕ). network_on b c.args.self.now.stretches) n.invariant.1 ∙ listed_same (network_on c.args.self.now.board c.args.self.now.stretches) c.args.i c.args.at c.args.self.now.board n.j c.args.self.now.stretches c.requires.1 (omega (arith, there)) in
    let n = c.loop-j in
    let N = network_on c.args.self.now.board c.args.self.now.stretches in
    let more = map (end_number N c.args.i) (cond (touches N c.args.i n.j) (n.j ∷ []) []) in (
      omega (arith, c.put_end-k.ensures.1, ap {B = ℕ} (λ (M : Network). cond (touches M c.args.i n.j) 1 0) same, n.invariant.0, listed_many N c.args.i n.j),
      c.put_end-k.ensures.0
          ∙ ap (λ (M : Network). overlaid n.self.board (37 + n.k) (map (end_number M c.args.i) (cond (touches M c.args.i n.j) (n.j ∷ []) []))) same
          ∙ ap (λ (b : List ℕ). overlaid b (37 + n.k) more) n.invariant.1
          ∙ ap (λ (m : ℕ). overlaid (overlaid c.args.self.now.board (37 + c.args.at) (ends_to N c.args.i n.j)) (37 + m) more) n.invariant.0
          ∙ listed_more N c.args.i c.args.at c.args.self.now.board n.j,
      c.put_end-k.ensures.2 ∙ n.invariant.2,
    )
