use mathlib.Core.Path.{◌≡◌, sym, ◌∙◌, ap}
use Prim.Native.Nat.{◌+◌, ◌≤◌, ◌<◌}
use native.Mathlib.Omega.{arith}
use Rattle.network.proofs.Elements.{held_beyond}
use Rattle.circuit.specs.Board.{nodes_on, start_on, network_on}
use Rattle.circuit.proofs.IndexLaws.{after_is}
use Rattle.circuit.proofs.NodeLaws.{added, held_each, added_none, held_all, held_more, held_fits_more, place_fits, end_fits}
use Rattle.circuit.proofs.Circuit.held.Goals as goal

pub returns-then-node-nodes : goal.returns-then-node-nodes
returns-then-node-nodes c =
    c.leak-total.ensures ∙ sym (held_beyond (network_on c.args.self.now.board c.args.self.now.stretches) c.args.node c.requires.limits.wired (omega (arith, c.if-node-nodes.true, c.nodes.ensures)))

pub loop-k-init : goal.loop-k-init
loop-k-init c =
    let node-there : c.args.node ≤ nodes_on c.args.self.now.board = omega (arith, c.if-node-nodes.false, c.nodes.ensures) in
    let e : c.start-k.result ≡ start_on c.args.self.now.board c.args.node = c.start-k.ensures in (
      omega (arith, e),
      omega (arith, e, c.start-k-end.ensures, after_is c.args.self.now.board c.args.self.now.stretches c.requires c.args.node node-there),
      c.start-k-end.ensures,
      c.leak-total.ensures ∙ sym (added_none c.args.self.now.board c.args.node (held_each c.args.self.now.board c.args.self.now.stretches c.args.node)) ∙ ap (added c.args.self.now.board (held_each c.args.self.now.board c.args.self.now.stretches c.args.node) c.args.node) (sym e),
    )

pub end-requires : goal.end-requires
end-requires c =
    let node-there : c.args.node ≤ nodes_on c.args.self.now.board = omega (arith, c.if-node-nodes.false, c.nodes.ensures) in
    let there : c.loop-k.k < start_on c.args.self.now.board (c.args.node + 1) = omega (arith, c.loop-k-test.true, c.loop-k.invariant.2) in
    place_fits c.args.self.now.board c.args.self.now.stretches c.requires c.args.node node-there c.loop-k.k c.loop-k.invariant.0 there

pub held_by-total-requires : goal.held_by-total-requires
held_by-total-requires c =
    let node-there : c.args.node ≤ nodes_on c.args.self.now.board = omega (arith, c.if-node-nodes.false, c.nodes.ensures) in
    let there : c.loop-k.k < start_on c.args.self.now.board (c.args.node + 1) = omega (arith, c.loop-k-test.true, c.loop-k.invariant.2) in
    rw c.end.ensures (end_fits c.args.self.now.board c.args.self.now.stretches c.requires c.args.node node-there c.loop-k.k c.loop-k.invariant.0 there)

-- one more element
one_more : (c : goal.After-held_by-total) → c.loop-k.total + c.held_by-total.result ≡ added c.args.self.now.board (held_each c.args.self.now.board c.args.self.now.stretches c.args.node) c.args.node (c.loop-k.k + 1)
one_more c =
    let node-there : c.args.node ≤ nodes_on c.args.self.now.board = omega (arith, c.if-node-nodes.false, c.nodes.ensures) in
    let there : c.loop-k.k < start_on c.args.self.now.board (c.args.node + 1) = omega (arith, c.loop-k-test.true, c.loop-k.invariant.2) in
    omega (arith, rw c.end.ensures at c.held_by-total.ensures, c.loop-k.invariant.3, held_more c.args.self.now.board c.args.self.now.stretches c.requires c.args.node node-there c.loop-k.k c.loop-k.invariant.0 there)

pub overflow_add-total : goal.overflow_add-total
overflow_add-total c =
    let node-there : c.args.node ≤ nodes_on c.args.self.now.board = omega (arith, c.if-node-nodes.false, c.nodes.ensures) in
    let there : c.loop-k.k < start_on c.args.self.now.board (c.args.node + 1) = omega (arith, c.loop-k-test.true, c.loop-k.invariant.2) in
    record { fits = omega (arith, one_more c, held_fits_more c.args.self.now.board c.args.self.now.stretches c.requires c.args.node node-there c.loop-k.k c.loop-k.invariant.0 there) }

pub loop-k-preserved : goal.loop-k-preserved
loop-k-preserved c = (omega (arith, c.loop-k.invariant.0), omega (arith, c.loop-k-test.true), c.loop-k.invariant.2, one_more c)

pub returns : goal.returns
returns c =
    let node-there : c.args.node ≤ nodes_on c.args.self.now.board = omega (arith, c.if-node-nodes.false, c.nodes.ensures) in
    let n = c.loop-k in
    let e : n.k ≡ start_on c.args.self.now.board (c.args.node + 1) = omega (arith, n.invariant.1, n.invariant.2, c.loop-k-test.false) in
    n.invariant.3 ∙ ap (added c.args.self.now.board (held_each c.args.self.now.board c.args.self.now.stretches c.args.node) c.args.node) e ∙ held_all c.args.self.now.board c.args.self.now.stretches c.requires c.args.node node-there
