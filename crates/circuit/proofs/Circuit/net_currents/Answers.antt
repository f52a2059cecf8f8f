use mathlib.Core.Path.{◌≡◌, subst, sym, ◌∙◌, ap}
use Prim.Native.Nat.{ℕ, ◌+◌, ◌≤◌, ◌<◌}
use native.Mathlib.Omega.{arith}
use lib.IntN.{pos, ◌+ℤ◌, ◌-ℤ◌}
use lib.ListN.{set}
use lib.Seq.{get_or-set_other}
use mir.Syntax.{w64}
use mir.Val.{to_z, of_z}
use mir.Facts.{to_z-of_z}
use borrow.Author.Rules.{rules}
use Rattle.units.proofs.Sizes.{plus_fits, minus_fits}
use Rattle.network.specs.Network.{reading}
use Rattle.circuit.specs.Board.{nodes_on, count_on, p_on, q_on, flow_on}
use Rattle.circuit.proofs.BoardLaws.{few_nodes, p_node, q_node}
use Rattle.circuit.proofs.NetLaws.{NettedBy, netted_none, netted_more, netted_all, by_fits, p_not_q}
use Rattle.circuit.proofs.Circuit.net_currents.Goals as goal

pub loop-j-init : goal.loop-j-init
loop-j-init c = (omega arith, c.count-count.ensures, netted_none c.args.self.now.board c.args.self.now.stretches c.args.stored.now c.args.volts.now _ c.leaked-nets.ensures)

-- both ends are nodes
p_place : (c : goal.After-flow-c) → c.end_p-p.result ≤ 15
p_place c = omega (arith, c.end_p-p.ensures, p_node c.args.self.now.board c.args.self.now.stretches c.requires.ready.laid c.loop-j.j (omega (arith, c.loop-j-test.true, c.loop-j.invariant.1)), few_nodes _ _ c.requires.ready.laid)

q_place : (c : goal.After-flow-c) → c.end_q-q.result ≤ 15
q_place c = omega (arith, c.end_q-q.ensures, q_node c.args.self.now.board c.args.self.now.stretches c.requires.ready.laid c.loop-j.j (omega (arith, c.loop-j-test.true, c.loop-j.invariant.1)), few_nodes _ _ c.requires.ready.laid)

pub offset_bounds-nets-p : goal.offset_bounds-nets-p
offset_bounds-nets-p c = record { fits = omega (arith, p_place c) }

pub bounds-nets-p : goal.bounds-nets-p
bounds-nets-p c = omega (arith, p_place c)

pub overflow_add-nets : goal.overflow_add-nets
overflow_add-nets c =
    let n = c.loop-j in
    let there : n.j < count_on c.args.self.now.board = omega (arith, c.loop-j-test.true, n.invariant.1) in
    let p = p_on c.args.self.now.board n.j in
    let here : p ≤ nodes_on c.args.self.now.board = p_node c.args.self.now.board c.args.self.now.stretches c.requires.ready.laid n.j there in
    let e : to_z w64 (of_z w64 (reading n.nets c.end_p-p.result)) ≡ reading n.nets c.end_p-p.result = search rules in
    let f : to_z w64 (of_z w64 c.flow-c.result) ≡ c.flow-c.result = search rules in
    rw (e, c.end_p-p.ensures, f, c.flow-c.ensures) (plus_fits (reading n.nets p) (flow_on c.args.self.now.board c.args.self.now.stretches c.args.stored.now c.args.volts.now n.j) (rw (n.invariant.2.1 p here) (by_fits c.args.self.now.board c.args.self.now.stretches c.args.stored.now c.args.volts.now c.requires n.j there p here)))

-- the net current of end p then, and that of end q as it is read
p_then : (c : goal.After-nets-1) → to_z w64 (of_z w64 (to_z w64 (of_z w64 (reading c.loop-j.nets c.end_p-p.result)) +ℤ to_z w64 (of_z w64 c.flow-c.result))) ≡ reading c.loop-j.nets (p_on c.args.self.now.board c.loop-j.j) +ℤ flow_on c.args.self.now.board c.args.self.now.stretches c.args.stored.now c.args.volts.now c.loop-j.j
p_then c =
    let n = c.loop-j in
    let e : to_z w64 (of_z w64 (reading n.nets c.end_p-p.result)) ≡ reading n.nets c.end_p-p.result = search rules in
    let f : to_z w64 (of_z w64 c.flow-c.result) ≡ c.flow-c.result = search rules in
    to_z-of_z (overflow_add-nets c) ∙ rw (e, c.end_p-p.ensures, f, c.flow-c.ensures)

q_read : (c : goal.After-nets-in-loop-j-1) → to_z w64 (of_z w64 (reading (set c.loop-j.nets c.end_p-p.result (to_z w64 (of_z w64 (to_z w64 (of_z w64 (reading c.loop-j.nets c.end_p-p.result)) +ℤ to_z w64 (of_z w64 c.flow-c.result))))) c.end_q-q.result)) ≡ reading c.loop-j.nets (q_on c.args.self.now.board c.loop-j.j)
q_read c =
    let n = c.loop-j in
    let there : n.j < count_on c.args.self.now.board = omega (arith, c.loop-j-test.true, n.invariant.1) in
    let y = to_z w64 (of_z w64 (to_z w64 (of_z w64 (reading n.nets c.end_p-p.result)) +ℤ to_z w64 (of_z w64 c.flow-c.result))) in
    let z = reading (set n.nets c.end_p-p.result y) c.end_q-q.result in
    let e : to_z w64 (of_z w64 z) ≡ z = search rules in
    let apart : c.end_q-q.result ≡ c.end_p-p.result → ⊥ = λ f. p_not_q c.args.self.now.board c.args.self.now.stretches c.args.stored.now c.args.volts.now c.requires n.j there (sym c.end_q-q.ensures ∙ f ∙ c.end_p-p.ensures) in
    e ∙ get_or-set_other n.nets c.end_p-p.result c.end_q-q.result y (pos 0) apart ∙ ap (reading n.nets) c.end_q-q.ensures

pub bounds-nets-p-in-loop-j : goal.bounds-nets-p-in-loop-j
bounds-nets-p-in-loop-j c = omega (arith, p_place c.before)

pub offset_bounds-nets-q : goal.offset_bounds-nets-q
offset_bounds-nets-q c = record { fits = omega (arith, q_place c.before) }

pub bounds-nets-q : goal.bounds-nets-q
bounds-nets-q c = omega (arith, q_place c.before)

pub overflow_sub-nets : goal.overflow_sub-nets
overflow_sub-nets c =
    let n = c.loop-j in
    let there : n.j < count_on c.args.self.now.board = omega (arith, c.loop-j-test.true, n.invariant.1) in
    let q = q_on c.args.self.now.board n.j in
    let here : q ≤ nodes_on c.args.self.now.board = q_node c.args.self.now.board c.args.self.now.stretches c.requires.ready.laid n.j there in
    let f : to_z w64 (of_z w64 c.flow-c.result) ≡ c.flow-c.result = search rules in
    rw (q_read c, f, c.flow-c.ensures) (minus_fits (reading n.nets q) (flow_on c.args.self.now.board c.args.self.now.stretches c.args.stored.now c.args.volts.now n.j) (rw (n.invariant.2.1 q here) (omega (arith, by_fits c.args.self.now.board c.args.self.now.stretches c.args.stored.now c.args.volts.now c.requires n.j there q here))))

pub bounds-nets-q-in-loop-j : goal.bounds-nets-q-in-loop-j
bounds-nets-q-in-loop-j c = omega (arith, q_place c.before.before)

pub loop-j-preserved : goal.loop-j-preserved
loop-j-preserved c =
    let n = c.loop-j in
    let there : n.j < count_on c.args.self.now.board = omega (arith, c.loop-j-test.true, n.invariant.1) in
    let f : to_z w64 (of_z w64 c.flow-c.result) ≡ c.flow-c.result = search rules in
    let y = to_z w64 (of_z w64 (to_z w64 (of_z w64 (reading n.nets c.end_p-p.result)) +ℤ to_z w64 (of_z w64 c.flow-c.result))) in
    let z = to_z w64 (of_z w64 (to_z w64 (of_z w64 (reading (set n.nets c.end_p-p.result y) c.end_q-q.result)) -ℤ to_z w64 (of_z w64 c.flow-c.result))) in
    let q_then : z ≡ reading n.nets (q_on c.args.self.now.board n.j) -ℤ flow_on c.args.self.now.board c.args.self.now.stretches c.args.stored.now c.args.volts.now n.j = to_z-of_z (overflow_sub-nets c) ∙ rw (q_read c, f, c.flow-c.ensures) in
    let told = netted_more c.args.self.now.board c.args.self.now.stretches c.args.stored.now c.args.volts.now c.requires n.j there n.nets y z (p_then c.before) q_then n.invariant.2 in (
      omega (arith, c.loop-j-test.true),
      n.invariant.1,
      subst (λ (p : ℕ). NettedBy c.args.self.now.board c.args.self.now.stretches c.args.stored.now c.args.volts.now (n.j + 1) (set (set n.nets p y) c.end_q-q.result z)) (sym c.end_p-p.ensures)
          (subst (λ (q : ℕ). NettedBy c.args.self.now.board c.args.self.now.stretches c.args.stored.now c.args.volts.now (n.j + 1) (set (set n.nets (p_on c.args.self.now.board n.j) y) q z)) (sym c.end_q-q.ensures) told),
    )

pub returns : goal.returns
returns c =
    let n = c.loop-j in
    netted_all c.args.self.now.board c.args.self.now.stretches c.args.stored.now c.args.volts.now n.j n.nets (omega (arith, n.invariant.0, n.invariant.1, c.loop-j-test.false)) n.invariant.2
