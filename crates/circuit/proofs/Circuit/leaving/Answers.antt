use Rattle.std.proofs.Common.{◌≡◌, ◌/◌, ◌∙◌, pos, arith, rules, w64, to_z, of_z, to_z-of_z}
use lib.IntN.{+ℤ_idl}
use borrow.Author.Tests.{eq-eqb, ne_eqb}
use Rattle.units.proofs.Sizes.{minus_fits}
use Rattle.network.specs.Network.{reading}
use Rattle.circuit.specs.Board.{p_on, q_on, flow_on}
use Rattle.circuit.proofs.BoardLaws.{few_nodes, p_node, q_node, across_fits, flow_fits}
use Rattle.circuit.proofs.Circuit.leaving.Goals as goal

pub offset_bounds-volts-q : goal.offset_bounds-volts-q
offset_bounds-volts-q c = record { fits = omega (arith, c.end_q-q.ensures, q_node _ _ c.requires.0.ready.laid (c.args.end / 2) c.requires.1, few_nodes _ _ c.requires.0.ready.laid) }

pub bounds-volts-q : goal.bounds-volts-q
bounds-volts-q c = omega (arith, c.end_q-q.ensures, q_node _ _ c.requires.0.ready.laid (c.args.end / 2) c.requires.1, few_nodes _ _ c.requires.0.ready.laid)

pub overflow_sub-own : goal.overflow_sub-own
overflow_sub-own c =
    let laid = c.requires.0.ready.laid in
    let volts = reading c.args.volts.now in
    let e : to_z w64 (of_z w64 (volts c.end_q-q.result)) ≡ volts c.end_q-q.result = search rules in
    rw (to_z-of_z c.ranges.own, e, c.end_q-q.ensures, rw (eq-eqb _ _ c.if-end-eq0.true) at c.requires.2)
    (minus_fits (volts (p_on c.args.self.now.board (c.args.end / 2))) (volts (q_on c.args.self.now.board (c.args.end / 2))) (omega (arith, c.requires.0.ranged _ (p_node _ _ laid (c.args.end / 2) c.requires.1), c.requires.0.ranged _ (q_node _ _ laid (c.args.end / 2) c.requires.1))))

pub carried-requires : goal.carried-requires
carried-requires c =
    let laid = c.requires.0.ready.laid in
    let volts = reading c.args.volts.now in
    let e : to_z w64 (of_z w64 (volts c.end_q-q.result)) ≡ volts c.end_q-q.result = search rules in
    let stored : to_z w64 (of_z w64 (reading c.args.stored.now (c.args.end / 2))) ≡ reading c.args.stored.now (c.args.end / 2) = search rules in
    (laid, c.requires.1, rw stored (c.requires.0.kept (c.args.end / 2) c.requires.1), rw (to_z-of_z (overflow_sub-own c), to_z-of_z c.ranges.own, e, c.end_q-q.ensures, rw (eq-eqb _ _ c.if-end-eq0.true) at c.requires.2) (across_fits c.args.self.now.board c.args.self.now.stretches laid (c.args.end / 2) c.requires.1 c.args.volts.now c.requires.0.ranged))

pub returns-then-end-eq0 : goal.returns-then-end-eq0
returns-then-end-eq0 c =
    let volts = reading c.args.volts.now in
    let e : to_z w64 (of_z w64 (volts c.end_q-q.result)) ≡ volts c.end_q-q.result = search rules in
    let stored : to_z w64 (of_z w64 (reading c.args.stored.now (c.args.end / 2))) ≡ reading c.args.stored.now (c.args.end / 2) = search rules in
    let f : to_z w64 (of_z w64 c.carried.result) ≡ c.carried.result = search rules in
    let flow = rw (stored, to_z-of_z (overflow_sub-own c.before), to_z-of_z c.ranges.own, e, c.end_q-q.ensures, rw (eq-eqb _ _ c.if-end-eq0.true) at c.requires.2) at c.carried.ensures in
    rw (eq-eqb _ _ c.if-end-eq0.true) (f ∙ flow)

pub offset_bounds-volts-p : goal.offset_bounds-volts-p
offset_bounds-volts-p c = record { fits = omega (arith, c.end_p-p.ensures, p_node _ _ c.requires.0.ready.laid (c.args.end / 2) c.requires.1, few_nodes _ _ c.requires.0.ready.laid) }

pub bounds-volts-p : goal.bounds-volts-p
bounds-volts-p c = omega (arith, c.end_p-p.ensures, p_node _ _ c.requires.0.ready.laid (c.args.end / 2) c.requires.1, few_nodes _ _ c.requires.0.ready.laid)

pub overflow_sub-volts : goal.overflow_sub-volts
overflow_sub-volts c =
    let laid = c.requires.0.ready.laid in
    let volts = reading c.args.volts.now in
    let e : to_z w64 (of_z w64 (volts c.end_p-p.result)) ≡ volts c.end_p-p.result = search rules in
    rw (to_z-of_z c.ranges.own, e, c.end_p-p.ensures, rw (ne_eqb _ _ c.if-end-eq0.false) at c.requires.2)
    (minus_fits (volts (p_on c.args.self.now.board (c.args.end / 2))) (volts (q_on c.args.self.now.board (c.args.end / 2))) (omega (arith, c.requires.0.ranged _ (p_node _ _ laid (c.args.end / 2) c.requires.1), c.requires.0.ranged _ (q_node _ _ laid (c.args.end / 2) c.requires.1))))

pub carried-requires-2 : goal.carried-requires-2
carried-requires-2 c =
    let laid = c.requires.0.ready.laid in
    let volts = reading c.args.volts.now in
    let e : to_z w64 (of_z w64 (volts c.end_p-p.result)) ≡ volts c.end_p-p.result = search rules in
    let stored : to_z w64 (of_z w64 (reading c.args.stored.now (c.args.end / 2))) ≡ reading c.args.stored.now (c.args.end / 2) = search rules in
    (laid, c.requires.1, rw stored (c.requires.0.kept (c.args.end / 2) c.requires.1), rw (to_z-of_z (overflow_sub-volts c), to_z-of_z c.ranges.own, e, c.end_p-p.ensures, rw (ne_eqb _ _ c.if-end-eq0.false) at c.requires.2) (across_fits c.args.self.now.board c.args.self.now.stretches laid (c.args.end / 2) c.requires.1 c.args.volts.now c.requires.0.ranged))

-- the element's current
flow : (c : goal.After-carried-2) → to_z w64 (of_z w64 c.carried-2.result) ≡ flow_on c.args.self.now.board c.args.self.now.stretches c.args.stored.now c.args.volts.now (c.args.end / 2)
flow c =
    let volts = reading c.args.volts.now in
    let e : to_z w64 (of_z w64 (volts c.end_p-p.result)) ≡ volts c.end_p-p.result = search rules in
    let stored : to_z w64 (of_z w64 (reading c.args.stored.now (c.args.end / 2))) ≡ reading c.args.stored.now (c.args.end / 2) = search rules in
    let f : to_z w64 (of_z w64 c.carried-2.result) ≡ c.carried-2.result = search rules in
    f ∙ rw (stored, to_z-of_z (overflow_sub-volts c.before), to_z-of_z c.ranges.own, e, c.end_p-p.ensures, rw (ne_eqb _ _ c.if-end-eq0.false) at c.requires.2) at c.carried-2.ensures

pub overflow_sub-result : goal.overflow_sub-result
overflow_sub-result c = rw (flow c) (minus_fits (pos 0) (flow_on c.args.self.now.board c.args.self.now.stretches c.args.stored.now c.args.volts.now (c.args.end / 2)) (omega (arith, flow_fits _ _ _ _ c.requires.0 (c.args.end / 2) c.requires.1)))

pub returns : goal.returns
returns c = rw (ne_eqb _ _ c.if-end-eq0.false) (to_z-of_z (overflow_sub-result c) ∙ rw (flow c) (+ℤ_idl _))
