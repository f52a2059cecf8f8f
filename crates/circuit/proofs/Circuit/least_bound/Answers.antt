use mathlib.Core.Path.{◌≡◌, sym, ◌∙◌}
use Prim.Native.Nat.{◌+◌}
use native.Mathlib.Omega.{arith}
use Rattle.network.specs.Network.{held, steepest}
use Rattle.network.proofs.Ranges.{held_fits, steepest_fits}
use Rattle.network.proofs.Hold.{leak_held}
use lib.Arith.{lt_of_le-ne}
use Rattle.circuit.specs.Board.{driven_on, nodes_on, network_on}
use Rattle.circuit.specs.Bound.{AtNode}
use Rattle.circuit.proofs.BoundLaws.{up_to_more, up_to_all}
use Rattle.std.specs.Prelude.{Some}
use Rattle.circuit.proofs.Circuit.least_bound.Goals as goal

pub at_node-requires : goal.at_node-requires
at_node-requires c =
    let N = network_on c.args.self.now.board c.args.self.now.stretches in
    let i = c.loop-k.k + 1 in
    let h = c.held.ensures in (
      omega (arith, h, leak_held N i, c.requires.limits.leaks),
      omega (arith, h, held_fits N c.requires.limits i),
      omega (arith, c.steepest.ensures, steepest_fits N c.requires.limits i),
    )

pub loop-k-preserved : goal.loop-k-preserved
loop-k-preserved c =
    let N = network_on c.args.self.now.board c.args.self.now.stretches in
    let i = c.loop-k.k + 1 in
    let l = c.loop-k in
    let n = c.in_ok-least.least in
    let m = c.max-most.ensures in
    let found : AtNode (steepest N i) (held N i) c.args.e (Some n) = rw (c.steepest.ensures, c.held.ensures) at c.in_ok-least.ensures in
    (omega (arith, l.invariant), omega (arith, c.loop-k-test.true), up_to_more c.args.self.now.board c.args.self.now.stretches c.args.e l.k l.most n c.max-most.result (omega (arith, l.invariant)) l.invariant.2 found.0 found.1 (omega (arith, m)) (omega (arith, m)) (λ k x y. omega (arith, m, x, y)))

pub returns : goal.returns
returns c =
    let l = c.loop-k in
    let d = c.driven-driven.ensures in
    let n = c.nodes-nodes.ensures in
    let e : l.k ≡ nodes_on c.args.self.now.board = omega (arith, n, l.invariant) in
    let apart : driven_on c.args.self.now.board ≡ nodes_on c.args.self.now.board → ⊥ = λ q. c.if-driven-nodes.false (d ∙ q ∙ sym n) in
    (lt_of_le-ne (omega (arith, l.invariant)) apart, up_to_all _ _ _ _ _ e l.invariant.2)
