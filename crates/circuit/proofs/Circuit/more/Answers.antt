use Rattle.std.proofs.Common.{List, ℕ, ℤ, ◌≡◌, true, false, ◌/◌, ◌≤◌, ◌∙◌, ap, pos, ◌-ℤ◌, ◌*ℤ◌, arith, rules, w64, to_z, of_z, to_z-of_z}
use Rattle.std.proofs.lemmas.Int.{to_z_pos}
use borrow.Author.Tests.{eq-eqb, ne_eqb}
use Rattle.units.specs.Voltage.{InRange}
use Rattle.units.proofs.Sizes.{fits_signed, minus_fits}
use Rattle.network.specs.Network.{reading, conductance_limit}
use Rattle.network.specs.Kind.{has_curve}
use Rattle.network.proofs.Ranges.{difference_fits, product_fits}
use Rattle.circuit.specs.Board.{kind_on, conductance_on, other_on}
use Rattle.circuit.proofs.BoardLaws.{few_nodes, other_node, straight_told, conductance_fits_lem}
use Rattle.circuit.proofs.NetLaws.{node_node, end_more, straight_more}
use Rattle.circuit.proofs.Circuit.more.Goals as goal

-- ---- a conductance

straight : (c : goal.Then-g-gt0) → has_curve (kind_on c.args.self.now.board (c.args.end / 2)) ≡ false
straight c = straight_told _ _ c.requires.0.ready.laid (c.args.end / 2) c.requires.2 (λ z. omega (arith, c.if-g-gt0.true, c.conductance-g.ensures, z))

small : (c : goal.Then-g-gt0) → conductance_on c.args.self.now.board (c.args.end / 2) ≤ conductance_limit
small c = conductance_fits_lem _ _ c.requires.0.ready.laid (c.args.end / 2) c.requires.2 (straight c)

own_range : (c : goal.Then-g-gt0) → InRange c.args.own
own_range c = rw c.requires.3 (c.requires.0.ranged _ (node_node _ _ c.requires.0.ready.laid c.args.end c.requires.2))

pub overflow_cast-result : goal.overflow_cast-result
overflow_cast-result c = record { sfits = omega (arith, c.conductance-g.ensures, small c) }

conductance_is : (c : goal.Then-g-gt0) → to_z w64 c.conductance-g.result ≡ pos (conductance_on c.args.self.now.board (c.args.end / 2))
conductance_is c = to_z_pos w64 _ (overflow_cast-result c).sfits ∙ ap pos c.conductance-g.ensures

pub overflow_sub-result : goal.overflow_sub-result
overflow_sub-result c = rw (to_z-of_z c.ranges.v, to_z-of_z c.ranges.own) (minus_fits c.args.v c.args.own (omega (arith, c.requires.4, own_range c)))

pub overflow_mul-result : goal.overflow_mul-result
overflow_mul-result c =
    let g = conductance_on c.args.self.now.board (c.args.end / 2) in
    let t = c.args.v -ℤ c.args.own in
    rw (conductance_is c, to_z-of_z (overflow_sub-result c), to_z-of_z c.ranges.v, to_z-of_z c.ranges.own)
    (fits_signed (pos g *ℤ t) (omega (arith, product_fits g t (small c) (difference_fits c.args.v c.args.own c.requires.4 (own_range c)))))

pub returns-then-g-gt0 : goal.returns-then-g-gt0
returns-then-g-gt0 c =
    to_z-of_z (overflow_mul-result c)
    ∙ rw (conductance_is c, to_z-of_z (overflow_sub-result c), to_z-of_z c.ranges.v, to_z-of_z c.ranges.own, c.requires.3) (straight_more c.args.self.now.board c.args.self.now.stretches c.requires.0.ready.laid c.args.end c.requires.2 c.args.stored.now c.args.volts.now c.requires.1 c.args.v (straight c))

-- ---- a curve

pub offset_bounds-volts-other : goal.offset_bounds-volts-other
offset_bounds-volts-other c = record { fits = omega (arith, c.requires.5, other_node _ _ c.requires.0.ready.laid c.args.end c.requires.2, few_nodes _ _ c.requires.0.ready.laid) }

pub bounds-volts-other : goal.bounds-volts-other
bounds-volts-other c = omega (arith, c.requires.5, other_node _ _ c.requires.0.ready.laid c.args.end c.requires.2, few_nodes _ _ c.requires.0.ready.laid)

-- where the other end stands
there_is : (volts : List ℤ) (other place : ℕ) → other ≡ place → InRange (reading volts place) → to_z w64 (of_z w64 (reading volts other)) ≡ reading volts place
there_is volts other place e range = ap (λ (i : ℕ). to_z w64 (of_z w64 (reading volts i))) e ∙ to_z-of_z (fits_signed (reading volts place) (omega (arith, range)))

pub overflow_sub-own : goal.overflow_sub-own
overflow_sub-own c =
    let here : InRange c.args.own = rw c.requires.3 (c.requires.0.ranged _ (node_node _ _ c.requires.0.ready.laid c.args.end c.requires.2)) in
    let range = c.requires.0.ranged _ (other_node _ _ c.requires.0.ready.laid c.args.end c.requires.2) in
    rw (to_z-of_z c.ranges.own, there_is c.args.volts.now c.args.other _ c.requires.5 range) (minus_fits c.args.own (reading c.args.volts.now (other_on c.args.self.now.board c.args.end)) (omega (arith, here, range)))

pub overflow_sub-v : goal.overflow_sub-v
overflow_sub-v c =
    let range = c.requires.0.ranged _ (other_node _ _ c.requires.0.ready.laid c.args.end c.requires.2) in
    rw (to_z-of_z c.ranges.v, there_is c.args.volts.now c.args.other _ c.requires.5 range) (minus_fits c.args.v (reading c.args.volts.now (other_on c.args.self.now.board c.args.end)) (omega (arith, c.requires.4, range)))

pub gained-requires : goal.gained-requires
gained-requires c =
    let here : InRange c.args.own = rw c.requires.3 (c.requires.0.ranged _ (node_node _ _ c.requires.0.ready.laid c.args.end c.requires.2)) in
    let range = c.requires.0.ranged _ (other_node _ _ c.requires.0.ready.laid c.args.end c.requires.2) in
    let there = there_is c.args.volts.now c.args.other _ c.requires.5 range in (
      c.requires.0.ready.laid,
      c.requires.2,
      rw (to_z-of_z (overflow_sub-own c), to_z-of_z c.ranges.own, there) (difference_fits c.args.own _ here range),
      rw (to_z-of_z (overflow_sub-v c), to_z-of_z c.ranges.v, there) (difference_fits c.args.v _ c.requires.4 range),
    )

pub returns-then-end-eq0 : goal.returns-then-end-eq0
returns-then-end-eq0 c =
    let range = c.requires.0.ranged _ (other_node _ _ c.requires.0.ready.laid c.args.end c.requires.2) in
    let there = there_is c.args.volts.now c.args.other _ c.requires.5 range in
    let e : to_z w64 (of_z w64 c.gained.result) ≡ c.gained.result = search rules in
    e ∙ (rw (to_z-of_z (overflow_sub-own c.before), to_z-of_z (overflow_sub-v c.before), to_z-of_z c.ranges.own, to_z-of_z c.ranges.v, there, c.requires.3) at c.gained.ensures) (reading c.args.stored.now (c.args.end / 2))
    ∙ end_more c.args.self.now.board c.args.self.now.stretches c.requires.0.ready.laid c.args.end c.requires.2 c.args.stored.now c.args.volts.now c.requires.1 c.args.v true (eq-eqb _ _ c.if-end-eq0.true)

pub overflow_sub-at : goal.overflow_sub-at
overflow_sub-at c =
    let range = c.requires.0.ranged _ (other_node _ _ c.requires.0.ready.laid c.args.end c.requires.2) in
    rw (to_z-of_z c.ranges.v, there_is c.args.volts.now c.args.other _ c.requires.5 range) (minus_fits (reading c.args.volts.now (other_on c.args.self.now.board c.args.end)) c.args.v (omega (arith, c.requires.4, range)))

pub overflow_sub-at-2 : goal.overflow_sub-at-2
overflow_sub-at-2 c =
    let here : InRange c.args.own = rw c.requires.3 (c.requires.0.ranged _ (node_node _ _ c.requires.0.ready.laid c.args.end c.requires.2)) in
    let range = c.requires.0.ranged _ (other_node _ _ c.requires.0.ready.laid c.args.end c.requires.2) in
    rw (to_z-of_z c.ranges.own, there_is c.args.volts.now c.args.other _ c.requires.5 range) (minus_fits (reading c.args.volts.now (other_on c.args.self.now.board c.args.end)) c.args.own (omega (arith, here, range)))

pub gained-requires-2 : goal.gained-requires-2
gained-requires-2 c =
    let here : InRange c.args.own = rw c.requires.3 (c.requires.0.ranged _ (node_node _ _ c.requires.0.ready.laid c.args.end c.requires.2)) in
    let range = c.requires.0.ranged _ (other_node _ _ c.requires.0.ready.laid c.args.end c.requires.2) in
    let there = there_is c.args.volts.now c.args.other _ c.requires.5 range in (
      c.requires.0.ready.laid,
      c.requires.2,
      rw (to_z-of_z (overflow_sub-at c), to_z-of_z c.ranges.v, there) (difference_fits _ c.args.v range c.requires.4),
      rw (to_z-of_z (overflow_sub-at-2 c), to_z-of_z c.ranges.own, there) (difference_fits _ c.args.own range here),
    )

pub returns : goal.returns
returns c =
    let range = c.requires.0.ranged _ (other_node _ _ c.requires.0.ready.laid c.args.end c.requires.2) in
    let there = there_is c.args.volts.now c.args.other _ c.requires.5 range in
    let e : to_z w64 (of_z w64 c.gained-2.result) ≡ c.gained-2.result = search rules in
    e ∙ (rw (to_z-of_z (overflow_sub-at c.before), to_z-of_z (overflow_sub-at-2 c.before), to_z-of_z c.ranges.own, to_z-of_z c.ranges.v, there, c.requires.3) at c.gained-2.ensures) (reading c.args.stored.now (c.args.end / 2))
    ∙ end_more c.args.self.now.board c.args.self.now.stretches c.requires.0.ready.laid c.args.end c.requires.2 c.args.stored.now c.args.volts.now c.requires.1 c.args.v false (ne_eqb _ _ c.if-end-eq0.false)
