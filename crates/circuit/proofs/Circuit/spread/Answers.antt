use mathlib.Core.Path.{◌≡◌, refl, sym, ◌∙◌, ap, subst}
use Prim.Native.Nat.{ℕ, ◌+◌, ◌≤◌, ◌<◌}
use native.Mathlib.Omega.{arith}
use lib.IntN.{ℤ, pos, ◌-ℤ◌, ◌*ℤ◌}
use lib.ListN.{set, length-set}
use mir.Syntax.{w64}
use mir.Val.{to_z, of_z}
use mir.Facts.{to_z-of_z}
use borrow.Author.Rules.{rules}
use Rattle.std.proofs.lemmas.Int.{to_z_pos}
use Rattle.units.proofs.Sizes.{fits_signed, plus_fits, minus_fits, minus_is}
use Rattle.units.specs.Voltage.{InRange}
use Rattle.network.specs.Network.{reading, net}
use Rattle.circuit.specs.Board.{leak_on, network_on, start_on, end_on, other_on, node_on, leaving_on}
use Rattle.circuit.proofs.BoardLaws.{few_nodes}
use Rattle.circuit.proofs.IndexLaws.{after_is}
use Rattle.circuit.proofs.NodeLaws.{place_fits, end_element, end_fits, node_here}
use Rattle.circuit.proofs.NetLaws.{walked, OthersWalked, walked_none_here, others_none, walked_here, others_more, walked_all, walked_fits, begun_fits, more-at, more_fits, far_node, far_away}
use Rattle.circuit.proofs.Circuit.spread.Goals as goal

-- how far the node moves, and the leak's current for that
own_is : (c : goal.After-leak) → to_z w64 (of_z w64 (reading c.args.volts.now c.args.i)) ≡ reading c.args.volts.now c.args.i
own_is c = search rules

ranged_to : (c : goal.After-leak) → InRange (to_z w64 (of_z w64 c.args.v))
ranged_to c = rw (to_z-of_z c.ranges.v) c.requires.4

leak_is : (c : goal.After-leak) → to_z w64 c.leak.result ≡ pos (leak_on c.args.self.now.board)
leak_is c = to_z_pos w64 _ (omega (arith, c.leak.ensures, c.requires.0.ready.laid.limits.leak_small)) ∙ ap pos c.leak.ensures

far_is : (c : goal.After-leak) → to_z w64 (of_z w64 (to_z w64 (of_z w64 c.args.v) -ℤ to_z w64 (of_z w64 (reading c.args.volts.now c.args.i)))) ≡ to_z w64 (of_z w64 c.args.v) -ℤ reading c.args.volts.now c.args.i
far_is c = minus_is _ _ (to_z w64 (of_z w64 c.args.v)) (reading c.args.volts.now c.args.i) refl (own_is c) (omega (arith, ranged_to c, c.requires.0.ranged _ c.requires.3))

net_is : (c : goal.After-leak) → to_z w64 (of_z w64 (reading c.args.nets.now c.args.i)) ≡ net 1 (network_on c.args.self.now.board c.args.self.now.stretches) (reading c.args.stored.now) (reading c.args.volts.now) c.args.i
net_is c = let e : to_z w64 (of_z w64 (reading c.args.nets.now c.args.i)) ≡ reading c.args.nets.now c.args.i = search rules in e ∙ c.requires.2.each c.args.i c.requires.3

pub overflow_mul-sum : goal.overflow_mul-sum
overflow_mul-sum c =
    let t = to_z w64 (of_z w64 c.args.v) -ℤ reading c.args.volts.now c.args.i in
    rw (leak_is c, far_is c) (fits_signed (pos (leak_on c.args.self.now.board) *ℤ t) (omega (arith, begun_fits c.args.self.now.board c.args.self.now.stretches c.args.stored.now c.args.volts.now c.requires.0 c.requires.1 c.args.i c.requires.3 (to_z w64 (of_z w64 c.args.v)) (ranged_to c))))

pub overflow_add-sum : goal.overflow_add-sum
overflow_add-sum c =
    let t = to_z w64 (of_z w64 c.args.v) -ℤ reading c.args.volts.now c.args.i in
    rw (net_is c, to_z-of_z (overflow_mul-sum c), leak_is c, far_is c)
    (plus_fits (net 1 (network_on c.args.self.now.board c.args.self.now.stretches) (reading c.args.stored.now) (reading c.args.volts.now) c.args.i) (pos (leak_on c.args.self.now.board) *ℤ t) (begun_fits c.args.self.now.board c.args.self.now.stretches c.args.stored.now c.args.volts.now c.requires.0 c.requires.1 c.args.i c.requires.3 (to_z w64 (of_z w64 c.args.v)) (ranged_to c)))

pub loop-k-init : goal.loop-k-init
loop-k-init c =
    let ranged = ranged_to c.before.before in
    let a = c.start-k-end.ensures in
    let k = sym c.start-k.ensures in (
      omega (arith, c.start-k.ensures),
      omega (arith, c.start-k.ensures, a, after_is c.args.self.now.board c.args.self.now.stretches c.requires.0.ready.laid c.args.i c.requires.3),
      a,
      c.requires.2.long,
      to_z-of_z (overflow_add-sum c.before.before) ∙ rw (net_is c.before.before, to_z-of_z (overflow_mul-sum c.before.before), leak_is c.before.before, far_is c.before.before) (sym (walked_none_here c.args.self.now.board c.args.self.now.stretches c.args.stored.now c.args.volts.now c.requires.0 c.requires.1 c.args.i c.requires.3 (to_z w64 (of_z w64 c.args.v)) ranged)) ∙ ap (λ (n : ℕ). walked c.args.self.now.board c.args.self.now.stretches c.args.stored.now c.args.volts.now c.args.i (to_z w64 (of_z w64 c.args.v)) n c.args.i) k,
      subst (λ (n : ℕ). OthersWalked c.args.self.now.board c.args.self.now.stretches c.args.stored.now c.args.volts.now c.args.i (to_z w64 (of_z w64 c.args.v)) n c.args.nets.now) k (others_none c.args.self.now.board c.args.self.now.stretches c.args.stored.now c.args.volts.now c.requires.0 c.requires.1 c.args.i c.requires.3 (to_z w64 (of_z w64 c.args.v)) ranged c.args.nets.now c.requires.2),
    )

pub end-end-requires : goal.end-end-requires
end-end-requires c =
    let there : c.loop-k.k < start_on c.args.self.now.board (c.args.i + 1) = omega (arith, c.loop-k-test.true, c.loop-k.invariant.2) in
    place_fits c.args.self.now.board c.args.self.now.stretches c.requires.0.ready.laid c.args.i c.requires.3 c.loop-k.k c.loop-k.invariant.0 there

pub other-other-requires : goal.other-other-requires
other-other-requires c =
    let there : c.loop-k.k < start_on c.args.self.now.board (c.args.i + 1) = omega (arith, c.loop-k-test.true, c.loop-k.invariant.2) in
    rw c.end-end.ensures (end_fits c.args.self.now.board c.args.self.now.stretches c.requires.0.ready.laid c.args.i c.requires.3 c.loop-k.k c.loop-k.invariant.0 there)

pub more-more-requires : goal.more-more-requires
more-more-requires c =
    let at_own : to_z w64 (of_z w64 (reading c.args.volts.now c.args.i)) ≡ reading c.args.volts.now c.args.i = search rules in
    let ranged : InRange (to_z w64 (of_z w64 c.args.v)) = rw (to_z-of_z c.ranges.v) c.requires.4 in
    let there : c.loop-k.k < start_on c.args.self.now.board (c.args.i + 1) = omega (arith, c.loop-k-test.true, c.loop-k.invariant.2) in
    let e = c.end-end.ensures in (
      c.requires.0,
      c.requires.1,
      rw e (end_element c.args.self.now.board c.args.self.now.stretches c.requires.0.ready.laid c.args.i c.requires.3 c.loop-k.k c.loop-k.invariant.0 there),
      at_own ∙ ap (reading c.args.volts.now) (sym (ap (node_on c.args.self.now.board) e ∙ node_here c.args.self.now.board c.args.self.now.stretches c.requires.0.ready.laid c.args.i c.requires.3 c.loop-k.k c.loop-k.invariant.0 there)),
      ranged,
      c.other-other.ensures,
    )

pub offset_bounds-nets-other : goal.offset_bounds-nets-other
offset_bounds-nets-other c = record {
  fits =
      let ranged : InRange (to_z w64 (of_z w64 c.args.v)) = rw (to_z-of_z c.ranges.v) c.requires.4 in
      let there : c.loop-k.k < start_on c.args.self.now.board (c.args.i + 1) = omega (arith, c.loop-k-test.true, c.loop-k.invariant.2) in
      let other-is : c.other-other.result ≡ other_on c.args.self.now.board (end_on c.args.self.now.board c.loop-k.k) = c.other-other.ensures ∙ ap (other_on c.args.self.now.board) c.end-end.ensures in
      let other-there : c.other-other.result ≤ 15 = omega (arith, other-is, far_node c.args.self.now.board c.args.self.now.stretches c.args.stored.now c.args.volts.now c.requires.0 c.requires.1 c.args.i c.requires.3 (to_z w64 (of_z w64 c.args.v)) ranged c.loop-k.k c.loop-k.invariant.0 there, few_nodes _ _ c.requires.0.ready.laid) in
      omega (arith, other-there);
}

pub bounds-nets-other : goal.bounds-nets-other
bounds-nets-other c =
    let ranged : InRange (to_z w64 (of_z w64 c.args.v)) = rw (to_z-of_z c.ranges.v) c.requires.4 in
    let there : c.loop-k.k < start_on c.args.self.now.board (c.args.i + 1) = omega (arith, c.loop-k-test.true, c.loop-k.invariant.2) in
    let other-is : c.other-other.result ≡ other_on c.args.self.now.board (end_on c.args.self.now.board c.loop-k.k) = c.other-other.ensures ∙ ap (other_on c.args.self.now.board) c.end-end.ensures in
    let other-there : c.other-other.result ≤ 15 = omega (arith, other-is, far_node c.args.self.now.board c.args.self.now.stretches c.args.stored.now c.args.volts.now c.requires.0 c.requires.1 c.args.i c.requires.3 (to_z w64 (of_z w64 c.args.v)) ranged c.loop-k.k c.loop-k.invariant.0 there, few_nodes _ _ c.requires.0.ready.laid) in
    omega (arith, other-there)

-- what the element carries more, and where its other end stands
ranged_v : (c : goal.After-nets-1) → InRange (to_z w64 (of_z w64 c.args.v))
ranged_v c = rw (to_z-of_z c.ranges.v) c.requires.4

place : (c : goal.After-nets-1) → c.loop-k.k < start_on c.args.self.now.board (c.args.i + 1)
place c = omega (arith, c.loop-k-test.true, c.loop-k.invariant.2)

more_is : (c : goal.After-nets-1) → to_z w64 (of_z w64 c.more-more.result) ≡ more-at c.args.self.now.board c.args.self.now.stretches c.args.stored.now c.args.volts.now c.requires.0 c.requires.1 c.args.i c.requires.3 (to_z w64 (of_z w64 c.args.v)) (ranged_v c) c.loop-k.k c.loop-k.invariant.0 (place c)
more_is c =
    let at = end_on c.args.self.now.board c.loop-k.k in
    let e : to_z w64 (of_z w64 c.more-more.result) ≡ c.more-more.result = search rules in
    e ∙ (rw c.end-end.ensures at c.more-more.ensures) ∙ ap (λ (n : ℕ). leaving_on c.args.self.now.board c.args.self.now.stretches c.args.stored.now (set c.args.volts.now n (to_z w64 (of_z w64 c.args.v))) at -ℤ leaving_on c.args.self.now.board c.args.self.now.stretches c.args.stored.now c.args.volts.now at) (node_here c.args.self.now.board c.args.self.now.stretches c.requires.0.ready.laid c.args.i c.requires.3 c.loop-k.k c.loop-k.invariant.0 (place c))

other_is : (c : goal.After-nets-1) → c.other-other.result ≡ other_on c.args.self.now.board (end_on c.args.self.now.board c.loop-k.k)
other_is c = c.other-other.ensures ∙ ap (other_on c.args.self.now.board) c.end-end.ensures

other_net : (c : goal.After-nets-1) → to_z w64 (of_z w64 (reading c.loop-k.nets c.other-other.result)) ≡ reading c.loop-k.nets (other_on c.args.self.now.board (end_on c.args.self.now.board c.loop-k.k))
other_net c = let e : to_z w64 (of_z w64 (reading c.loop-k.nets c.other-other.result)) ≡ reading c.loop-k.nets c.other-other.result = search rules in e ∙ ap (reading c.loop-k.nets) (other_is c)

pub overflow_sub-nets : goal.overflow_sub-nets
overflow_sub-nets c =
    let n = c.loop-k in
    let far = far_node c.args.self.now.board c.args.self.now.stretches c.args.stored.now c.args.volts.now c.requires.0 c.requires.1 c.args.i c.requires.3 (to_z w64 (of_z w64 c.args.v)) (ranged_v c) n.k n.invariant.0 (place c) in
    rw (other_net c, more_is c, n.invariant.5 _ far (far_away c.args.self.now.board c.args.self.now.stretches c.args.stored.now c.args.volts.now c.requires.0 c.requires.1 c.args.i c.requires.3 (to_z w64 (of_z w64 c.args.v)) (ranged_v c) n.k n.invariant.0 (place c)))
    (minus_fits (walked c.args.self.now.board c.args.self.now.stretches c.args.stored.now c.args.volts.now c.args.i (to_z w64 (of_z w64 c.args.v)) n.k (other_on c.args.self.now.board (end_on c.args.self.now.board n.k))) (more-at c.args.self.now.board c.args.self.now.stretches c.args.stored.now c.args.volts.now c.requires.0 c.requires.1 c.args.i c.requires.3 (to_z w64 (of_z w64 c.args.v)) (ranged_v c) n.k n.invariant.0 (place c))
    (omega (arith, walked_fits c.args.self.now.board c.args.self.now.stretches c.args.stored.now c.args.volts.now c.requires.0 c.requires.1 c.args.i c.requires.3 (to_z w64 (of_z w64 c.args.v)) (ranged_v c) n.k _ (omega (arith, place c)) far, more_fits c.args.self.now.board c.args.self.now.stretches c.args.stored.now c.args.volts.now c.requires.0 c.requires.1 c.args.i c.requires.3 (to_z w64 (of_z w64 c.args.v)) (ranged_v c) n.k n.invariant.0 (place c))))

pub bounds-nets-other-in-loop-k : goal.bounds-nets-other-in-loop-k
bounds-nets-other-in-loop-k c =
    let ranged : InRange (to_z w64 (of_z w64 c.args.v)) = rw (to_z-of_z c.ranges.v) c.requires.4 in
    let there : c.loop-k.k < start_on c.args.self.now.board (c.args.i + 1) = omega (arith, c.loop-k-test.true, c.loop-k.invariant.2) in
    let other-is : c.other-other.result ≡ other_on c.args.self.now.board (end_on c.args.self.now.board c.loop-k.k) = c.other-other.ensures ∙ ap (other_on c.args.self.now.board) c.end-end.ensures in
    let other-there : c.other-other.result ≤ 15 = omega (arith, other-is, far_node c.args.self.now.board c.args.self.now.stretches c.args.stored.now c.args.volts.now c.requires.0 c.requires.1 c.args.i c.requires.3 (to_z w64 (of_z w64 c.args.v)) ranged c.loop-k.k c.loop-k.invariant.0 there, few_nodes _ _ c.requires.0.ready.laid) in
    omega (arith, other-there)

-- the other end's net current then
then : (c : goal.After-nets-1) → to_z w64 (of_z w64 (to_z w64 (of_z w64 (reading c.loop-k.nets c.other-other.result)) -ℤ to_z w64 (of_z w64 c.more-more.result))) ≡ reading c.loop-k.nets (other_on c.args.self.now.board (end_on c.args.self.now.board c.loop-k.k)) -ℤ more-at c.args.self.now.board c.args.self.now.stretches c.args.stored.now c.args.volts.now c.requires.0 c.requires.1 c.args.i c.requires.3 (to_z w64 (of_z w64 c.args.v)) (ranged_v c) c.loop-k.k c.loop-k.invariant.0 (place c)
then c = to_z-of_z (overflow_sub-nets c) ∙ rw (other_net c, more_is c)

pub overflow_add-sum-in-loop-k : goal.overflow_add-sum-in-loop-k
overflow_add-sum-in-loop-k c =
    let n = c.loop-k in
    rw (n.invariant.4, more_is c)
    (plus_fits (walked c.args.self.now.board c.args.self.now.stretches c.args.stored.now c.args.volts.now c.args.i (to_z w64 (of_z w64 c.args.v)) n.k c.args.i) (more-at c.args.self.now.board c.args.self.now.stretches c.args.stored.now c.args.volts.now c.requires.0 c.requires.1 c.args.i c.requires.3 (to_z w64 (of_z w64 c.args.v)) (ranged_v c) n.k n.invariant.0 (place c))
    (omega (arith, walked_fits c.args.self.now.board c.args.self.now.stretches c.args.stored.now c.args.volts.now c.requires.0 c.requires.1 c.args.i c.requires.3 (to_z w64 (of_z w64 c.args.v)) (ranged_v c) n.k c.args.i (omega (arith, place c)) c.requires.3, more_fits c.args.self.now.board c.args.self.now.stretches c.args.stored.now c.args.volts.now c.requires.0 c.requires.1 c.args.i c.requires.3 (to_z w64 (of_z w64 c.args.v)) (ranged_v c) n.k n.invariant.0 (place c))))

pub loop-k-preserved : goal.loop-k-preserved
loop-k-preserved c =
    let n = c.loop-k in
    let y = to_z w64 (of_z w64 (to_z w64 (of_z w64 (reading n.nets c.other-other.result)) -ℤ to_z w64 (of_z w64 c.more-more.result))) in (
      omega (arith, n.invariant.0),
      omega (arith, c.loop-k-test.true),
      n.invariant.2,
      length-set n.nets _ _ ∙ n.invariant.3,
      to_z-of_z (overflow_add-sum-in-loop-k c) ∙ rw (n.invariant.4, more_is c) (sym (walked_here c.args.self.now.board c.args.self.now.stretches c.args.stored.now c.args.volts.now c.requires.0 c.requires.1 c.args.i c.requires.3 (to_z w64 (of_z w64 c.args.v)) (ranged_v c) n.k n.invariant.0 (place c))),
      subst (λ (o : ℕ). OthersWalked c.args.self.now.board c.args.self.now.stretches c.args.stored.now c.args.volts.now c.args.i (to_z w64 (of_z w64 c.args.v)) (n.k + 1) (set n.nets o y)) (sym (other_is c)) (others_more c.args.self.now.board c.args.self.now.stretches c.args.stored.now c.args.volts.now c.requires.0 c.requires.1 c.args.i c.requires.3 (to_z w64 (of_z w64 c.args.v)) (ranged_v c) n.k n.invariant.0 (place c) n.nets y n.invariant.3 n.invariant.5 (then c)),
    )

pub returns : goal.returns
returns c =
    let ranged : InRange (to_z w64 (of_z w64 c.args.v)) = rw (to_z-of_z c.ranges.v) c.requires.4 in
    let n = c.loop-k in
    let e : n.k ≡ start_on c.args.self.now.board (c.args.i + 1) = omega (arith, n.invariant.1, n.invariant.2, c.loop-k-test.false) in
    let is = to_z-of_z c.ranges.v in
    let all : (m : ℕ) → walked c.args.self.now.board c.args.self.now.stretches c.args.stored.now c.args.volts.now c.args.i (to_z w64 (of_z w64 c.args.v)) n.k m ≡ net 1 (network_on c.args.self.now.board c.args.self.now.stretches) (reading c.args.stored.now) (reading (set c.args.volts.now c.args.i c.args.v)) m =
    λ m. rw e (walked_all c.args.self.now.board c.args.self.now.stretches c.args.stored.now c.args.volts.now c.requires.0 c.requires.1 c.args.i c.requires.3 (to_z w64 (of_z w64 c.args.v)) ranged m) ∙ ap (λ (z : ℤ). net 1 (network_on c.args.self.now.board c.args.self.now.stretches) (reading c.args.stored.now) (reading (set c.args.volts.now c.args.i z)) m) is in
    record { long = n.invariant.3; here = n.invariant.4 ∙ all c.args.i; others = λ m h away. n.invariant.5 m h away ∙ all m }
