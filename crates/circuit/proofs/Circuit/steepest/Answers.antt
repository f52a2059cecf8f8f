use mathlib.Core.Path.{◌≡◌, sym, ◌∙◌, ap}
use Prim.Native.Nat.{◌+◌, ◌≤◌, ◌<◌}
use native.Mathlib.Omega.{arith}
use Rattle.network.proofs.Elements.{steepest_beyond}
use Rattle.circuit.specs.Board.{nodes_on, start_on, network_on}
use Rattle.circuit.proofs.IndexLaws.{after_is}
use Rattle.circuit.proofs.NodeLaws.{added, steepest_each, added_none, steepest_all, steepest_more, steepest_fits_more, place_fits, end_element}
use Rattle.circuit.proofs.Circuit.steepest.Goals as goal

pub returns-then-node-nodes : goal.returns-then-node-nodes
returns-then-node-nodes c =
    c.leak-sum.ensures ∙ sym (steepest_beyond (network_on c.args.self.now.board c.args.self.now.stretches) c.args.node c.requires.limits.wired (omega (arith, c.if-node-nodes.true, c.nodes.ensures)))

pub loop-k-init : goal.loop-k-init
loop-k-init c =
    let node-there : c.args.node ≤ nodes_on c.args.self.now.board = omega (arith, c.if-node-nodes.false, c.nodes.ensures) in
    let e : c.start-k.result ≡ start_on c.args.self.now.board c.args.node = c.start-k.ensures in (
      omega (arith, e),
      omega (arith, e, c.start-k-end.ensures, after_is c.args.self.now.board c.args.self.now.stretches c.requires c.args.node node-there),
      c.start-k-end.ensures,
      c.leak-sum.ensures ∙ sym (added_none c.args.self.now.board c.args.node (steepest_each c.args.self.now.board c.args.self.now.stretches c.args.node)) ∙ ap (added c.args.self.now.board (steepest_each c.args.self.now.board c.args.self.now.stretches c.args.node) c.args.node) (sym e),
    )

pub end-requires : goal.end-requires
end-requires c =
    let node-there : c.args.node ≤ nodes_on c.args.self.now.board = omega (arith, c.if-node-nodes.false, c.nodes.ensures) in
    let there : c.loop-k.k < start_on c.args.self.now.board (c.args.node + 1) = omega (arith, c.loop-k-test.true, c.loop-k.invariant.2) in
    place_fits c.args.self.now.board c.args.self.now.stretches c.requires c.args.node node-there c.loop-k.k c.loop-k.invariant.0 there

pub steepest_slope-sum-requires : goal.steepest_slope-sum-requires
steepest_slope-sum-requires c =
    let node-there : c.args.node ≤ nodes_on c.args.self.now.board = omega (arith, c.if-node-nodes.false, c.nodes.ensures) in
    let there : c.loop-k.k < start_on c.args.self.now.board (c.args.node + 1) = omega (arith, c.loop-k-test.true, c.loop-k.invariant.2) in
    (c.requires, rw c.end.ensures (end_element c.args.self.now.board c.args.self.now.stretches c.requires c.args.node node-there c.loop-k.k c.loop-k.invariant.0 there))

-- one more element
one_more : (c : goal.After-steepest_slope-sum) → c.loop-k.sum + c.steepest_slope-sum.result ≡ added c.args.self.now.board (steepest_each c.args.self.now.board c.args.self.now.stretches c.args.node) c.args.node (c.loop-k.k + 1)
one_more c =
    let node-there : c.args.node ≤ nodes_on c.args.self.now.board = omega (arith, c.if-node-nodes.false, c.nodes.ensures) in
    let there : c.loop-k.k < start_on c.args.self.now.board (c.args.node + 1) = omega (arith, c.loop-k-test.true, c.loop-k.invariant.2) in
    omega (arith, rw c.end.ensures at c.steepest_slope-sum.ensures, c.loop-k.invariant.3, steepest_more c.args.self.now.board c.args.self.now.stretches c.requires c.args.node node-there c.loop-k.k c.loop-k.invariant.0 there)

pub overflow_add-sum : goal.overflow_add-sum
overflow_add-sum c =
    let node-there : c.args.node ≤ nodes_on c.args.self.now.board = omega (arith, c.if-node-nodes.false, c.nodes.ensures) in
    let there : c.loop-k.k < start_on c.args.self.now.board (c.args.node + 1) = omega (arith, c.loop-k-test.true, c.loop-k.invariant.2) in
    record { fits = omega (arith, one_more c, steepest_fits_more c.args.self.now.board c.args.self.now.stretches c.requires c.args.node node-there c.loop-k.k c.loop-k.invariant.0 there) }

pub loop-k-preserved : goal.loop-k-preserved
loop-k-preserved c = (omega (arith, c.loop-k.invariant.0), omega (arith, c.loop-k-test.true), c.loop-k.invariant.2, one_more c)

pub returns : goal.returns
returns c =
    let node-there : c.args.node ≤ nodes_on c.args.self.now.board = omega (arith, c.if-node-nodes.false, c.nodes.ensures) in
    let n = c.loop-k in
    let e : n.k ≡ start_on c.args.self.now.board (c.args.node + 1) = omega (arith, n.invariant.1, n.invariant.2, c.loop-k-test.false) in
    n.invariant.3 ∙ ap (added c.args.self.now.board (steepest_each c.args.self.now.board c.args.self.now.stretches c.args.node) c.args.node) e ∙ steepest_all c.args.self.now.board c.args.self.now.stretches c.requires c.args.node node-there
