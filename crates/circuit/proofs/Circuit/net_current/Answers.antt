use mathlib.Core.Path.{◌≡◌, sym, ◌∙◌, ap}
use Prim.Native.Nat.{◌+◌, ◌<◌, ◌^◌}
use native.Mathlib.Nat.{mul-le-mul}
use native.Mathlib.Omega.{arith}
use lib.IntN.{pos, ◌*ℤ◌}
use mir.Syntax.{w64}
use mir.Val.{to_z, of_z, SFits}
use borrow.Author.Rules.{rules}
use mir.Facts.{to_z-of_z}
use Rattle.std.proofs.lemmas.Int.{to_z_pos}
use Rattle.units.proofs.Sizes.{plus_fits, times_fits}
use Rattle.network.specs.Network.{reading}
use Rattle.circuit.specs.Board.{leak_on, start_on, node_on, end_on, leaving_on}
use Rattle.circuit.proofs.IndexLaws.{after_is}
use Rattle.circuit.proofs.NodeLaws.{net_to, net_none, net_more, net_all, net_fits_more, place_fits, end_element, node_here}
use Rattle.circuit.proofs.Circuit.net_current.Goals as goal

pub loop-k-init : goal.loop-k-init
loop-k-init c =
    let board = c.args.self.now.board in
    let z = reading c.args.volts.now c.args.node in
    let small : c.leak.result < 2 ^ 63 = omega (arith, c.leak.ensures, c.requires.0.ready.laid.limits.leak_small) in
    let at-leak : to_z w64 c.leak.result ≡ pos (leak_on board) = to_z_pos w64 _ small ∙ ap pos c.leak.ensures in
    let at-node : to_z w64 (of_z w64 z) ≡ z = search rules in
    let product : SFits w64 (pos (leak_on board) *ℤ z) = times_fits (pos (leak_on board)) z (omega (arith, mul-le-mul c.requires.0.ready.laid.limits.leak_small (c.requires.0.ranged c.args.node c.requires.1))) in
    let a = c.start-k-end.ensures in (
      omega (arith, c.start-k.ensures),
      omega (arith, c.start-k.ensures, a, after_is c.args.self.now.board c.args.self.now.stretches c.requires.0.ready.laid c.args.node c.requires.1),
      a,
      rw (at-leak, at-node, to_z-of_z product) (sym (net_none c.args.self.now.board c.args.self.now.stretches c.args.stored.now c.args.volts.now c.requires.0 c.args.node c.requires.1)) ∙ ap (net_to c.args.self.now.board c.args.self.now.stretches c.args.stored.now c.args.volts.now c.args.node) (sym c.start-k.ensures),
    )

pub end-requires : goal.end-requires
end-requires c =
    let there : c.loop-k.k < start_on c.args.self.now.board (c.args.node + 1) = omega (arith, c.loop-k-test.true, c.loop-k.invariant.2) in
    place_fits c.args.self.now.board c.args.self.now.stretches c.requires.0.ready.laid c.args.node c.requires.1 c.loop-k.k c.loop-k.invariant.0 there

pub leaving-sum-requires : goal.leaving-sum-requires
leaving-sum-requires c =
    let at-node : to_z w64 (of_z w64 (reading c.args.volts.now c.args.node)) ≡ reading c.args.volts.now c.args.node = search rules in
    let there : c.loop-k.k < start_on c.args.self.now.board (c.args.node + 1) = omega (arith, c.loop-k-test.true, c.loop-k.invariant.2) in
    let k = c.loop-k.k in
    let low = c.loop-k.invariant.0 in (
      c.requires.0,
      rw c.end.ensures (end_element c.args.self.now.board c.args.self.now.stretches c.requires.0.ready.laid c.args.node c.requires.1 k low there),
      at-node ∙ ap (reading c.args.volts.now) (sym (ap (node_on c.args.self.now.board) c.end.ensures ∙ node_here c.args.self.now.board c.args.self.now.stretches c.requires.0.ready.laid c.args.node c.requires.1 k low there)),
    )

pub overflow_add-sum : goal.overflow_add-sum
overflow_add-sum c =
    let there : c.loop-k.k < start_on c.args.self.now.board (c.args.node + 1) = omega (arith, c.loop-k-test.true, c.loop-k.invariant.2) in
    let e : to_z w64 (of_z w64 c.leaving-sum.result) ≡ c.leaving-sum.result = search rules in
    rw (c.loop-k.invariant.3, e, c.leaving-sum.ensures, c.end.ensures) (plus_fits (net_to c.args.self.now.board c.args.self.now.stretches c.args.stored.now c.args.volts.now c.args.node c.loop-k.k) (leaving_on c.args.self.now.board c.args.self.now.stretches c.args.stored.now c.args.volts.now (end_on c.args.self.now.board c.loop-k.k)) (net_fits_more c.args.self.now.board c.args.self.now.stretches c.args.stored.now c.args.volts.now c.requires.0 c.args.node c.requires.1 c.loop-k.k c.loop-k.invariant.0 there))

pub loop-k-preserved : goal.loop-k-preserved
loop-k-preserved c =
    let there : c.loop-k.k < start_on c.args.self.now.board (c.args.node + 1) = omega (arith, c.loop-k-test.true, c.loop-k.invariant.2) in
    let n = c.loop-k in
    let f : to_z w64 (of_z w64 c.leaving-sum.result) ≡ c.leaving-sum.result = search rules in (
      omega (arith, n.invariant.0),
      omega (arith, c.loop-k-test.true),
      n.invariant.2,
      to_z-of_z (overflow_add-sum c) ∙ rw (n.invariant.3, f, c.leaving-sum.ensures, c.end.ensures) (sym (net_more c.args.self.now.board c.args.self.now.stretches c.args.stored.now c.args.volts.now c.requires.0 c.args.node c.requires.1 n.k n.invariant.0 there)),
    )

pub returns : goal.returns
returns c =
    let n = c.loop-k in
    let e : n.k ≡ start_on c.args.self.now.board (c.args.node + 1) = omega (arith, n.invariant.1, n.invariant.2, c.loop-k-test.false) in
    n.invariant.3 ∙ ap (net_to c.args.self.now.board c.args.self.now.stretches c.args.stored.now c.args.volts.now c.args.node) e ∙ net_all c.args.self.now.board c.args.self.now.stretches c.args.stored.now c.args.volts.now c.requires.0 c.args.node c.requires.1
