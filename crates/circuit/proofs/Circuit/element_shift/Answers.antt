use mathlib.Core.Path.{◌≡◌, refl, subst, sym, ◌∙◌, ap}
use Prim.Native.Nat.{ℕ, ◌+◌, ◌<◌}
use native.Mathlib.Omega.{arith}
use lib.IntN.{pos, ◌+ℤ◌, ◌-ℤ◌}
use lib.ListN.{set}
use mir.Syntax.{w64}
use mir.Val.{to_z, of_z}
use borrow.Author.Rules.{rules}
use mir.Facts.{to_z-of_z}
use Rattle.units.proofs.Sizes.{plus_fits, minus_fits}
use Rattle.network.specs.Network.{reading}
use Rattle.circuit.specs.Shift.{Shifted}
use Rattle.circuit.specs.Board.{p_on, q_on, across_on, flow_on}
use Rattle.circuit.proofs.BoardLaws.{ends, across_fits}
use Rattle.circuit.proofs.ShiftLaws.{p_short, q_short, p_fits, q_fits, element_same, element_more}
use Rattle.circuit.proofs.Circuit.element_shift.Goals as goal

pub across-old-requires : goal.across-old-requires
across-old-requires c = ends _ _ c.requires.0.ready.laid c.args.j c.requires.3 _ c.requires.0.ranged

pub across-new-requires : goal.across-new-requires
across-new-requires c = ends _ _ c.requires.0.ready.laid c.args.j c.requires.3 _ c.requires.1.ranged

pub returns-then-old-new : goal.returns-then-old-new
returns-then-old-new c =
    let at_old : to_z w64 (of_z w64 c.across-old.result) ≡ across_on c.args.self.now.board c.args.volts.now c.args.j = let e : to_z w64 (of_z w64 c.across-old.result) ≡ c.across-old.result = search rules in e ∙ c.across-old.ensures in
    let at_new : to_z w64 (of_z w64 c.across-new.result) ≡ across_on c.args.self.now.board c.args.s.now c.args.j = let e : to_z w64 (of_z w64 c.across-new.result) ≡ c.across-new.result = search rules in e ∙ c.across-new.ensures in
    element_same _ _ _ _ _ c.requires.0 c.requires.1 c.requires.2 c.requires.3 (sym at_old ∙ ap (to_z w64) c.if-old-new.true ∙ at_new)

pub gained-more-requires : goal.gained-more-requires
gained-more-requires c =
    let at_old : to_z w64 (of_z w64 c.across-old.result) ≡ across_on c.args.self.now.board c.args.volts.now c.args.j = let e : to_z w64 (of_z w64 c.across-old.result) ≡ c.across-old.result = search rules in e ∙ c.across-old.ensures in
    let at_new : to_z w64 (of_z w64 c.across-new.result) ≡ across_on c.args.self.now.board c.args.s.now c.args.j = let e : to_z w64 (of_z w64 c.across-new.result) ≡ c.across-new.result = search rules in e ∙ c.across-new.ensures in
    let laid = c.requires.0.ready.laid in
    rw (at_old, at_new)
    (laid, c.requires.3, across_fits _ _ laid c.args.j c.requires.3 c.args.volts.now c.requires.0.ranged, across_fits _ _ laid c.args.j c.requires.3 c.args.s.now c.requires.1.ranged)

pub offset_bounds-nets-p : goal.offset_bounds-nets-p
offset_bounds-nets-p c = record {
  fits =
      let p-place : c.end_p-p.result < 16 = rw c.end_p-p.ensures (p_short _ _ _ _ _ c.requires.0 c.requires.1 c.requires.2 c.requires.3) in
      omega (arith, p-place);
}

pub bounds-nets-p : goal.bounds-nets-p
bounds-nets-p c =
    let p-place : c.end_p-p.result < 16 = rw c.end_p-p.ensures (p_short _ _ _ _ _ c.requires.0 c.requires.1 c.requires.2 c.requires.3) in
    p-place

pub offset_bounds-nets-q : goal.offset_bounds-nets-q
offset_bounds-nets-q c = record {
  fits =
      let q-place : c.end_q-q.result < 16 = rw c.end_q-q.ensures (q_short _ _ _ _ _ c.requires.0 c.requires.1 c.requires.2 c.requires.3) in
      omega (arith, q-place);
}

pub bounds-nets-q : goal.bounds-nets-q
bounds-nets-q c =
    let q-place : c.end_q-q.result < 16 = rw c.end_q-q.ensures (q_short _ _ _ _ _ c.requires.0 c.requires.1 c.requires.2 c.requires.3) in
    q-place

-- what the element carries more
more_is : (c : goal.After-end_q-q) → to_z w64 (of_z w64 c.gained-more.result) ≡ flow_on c.args.self.now.board c.args.self.now.stretches c.args.stored.now c.args.s.now c.args.j -ℤ flow_on c.args.self.now.board c.args.self.now.stretches c.args.stored.now c.args.volts.now c.args.j
more_is c =
    let at_old : to_z w64 (of_z w64 c.across-old.result) ≡ across_on c.args.self.now.board c.args.volts.now c.args.j = let e : to_z w64 (of_z w64 c.across-old.result) ≡ c.across-old.result = search rules in e ∙ c.across-old.ensures in
    let at_new : to_z w64 (of_z w64 c.across-new.result) ≡ across_on c.args.self.now.board c.args.s.now c.args.j = let e : to_z w64 (of_z w64 c.across-new.result) ≡ c.across-new.result = search rules in e ∙ c.across-new.ensures in
    let e : to_z w64 (of_z w64 c.gained-more.result) ≡ c.gained-more.result = search rules in
    e ∙ (rw (at_old, at_new) at c.gained-more.ensures) (reading c.args.stored.now c.args.j)

pub bounds-nets-p-2 : goal.bounds-nets-p-2
bounds-nets-p-2 c = rw c.end_p-p.ensures (p_short _ _ _ _ _ c.requires.0 c.requires.1 c.requires.2 c.requires.3)

pub bounds-nets-q-2 : goal.bounds-nets-q-2
bounds-nets-q-2 c = rw c.end_q-q.ensures (q_short _ _ _ _ _ c.requires.0 c.requires.1 c.requires.2 c.requires.3)

pub overflow_add-nets : goal.overflow_add-nets
overflow_add-nets c =
    let p = c.end_p-p.result in
    let e : to_z w64 (of_z w64 (reading c.args.nets.now p)) ≡ reading c.args.nets.now p = search rules in
    rw (e, c.end_p-p.ensures, more_is c.before) (plus_fits (reading c.args.nets.now (p_on c.args.self.now.board c.args.j)) (flow_on c.args.self.now.board c.args.self.now.stretches c.args.stored.now c.args.s.now c.args.j -ℤ flow_on c.args.self.now.board c.args.self.now.stretches c.args.stored.now c.args.volts.now c.args.j) (p_fits _ _ _ _ _ c.requires.0 c.requires.1 c.requires.2 c.requires.3))

-- the net current of end p then, and that of end q as it is read
p_then : (c : goal.After-nets-1) → to_z w64 (of_z w64 (to_z w64 (of_z w64 (reading c.args.nets.now c.end_p-p.result)) +ℤ to_z w64 (of_z w64 c.gained-more.result))) ≡ reading c.args.nets.now (p_on c.args.self.now.board c.args.j) +ℤ (flow_on c.args.self.now.board c.args.self.now.stretches c.args.stored.now c.args.s.now c.args.j -ℤ flow_on c.args.self.now.board c.args.self.now.stretches c.args.stored.now c.args.volts.now c.args.j)
p_then c =
    let p = c.end_p-p.result in
    let e : to_z w64 (of_z w64 (reading c.args.nets.now p)) ≡ reading c.args.nets.now p = search rules in
    to_z-of_z (overflow_add-nets c) ∙ rw (e, c.end_p-p.ensures, more_is c.before)

pub overflow_sub-nets : goal.overflow_sub-nets
overflow_sub-nets c =
    let nets = c.args.nets.now in
    let y = to_z w64 (of_z w64 (to_z w64 (of_z w64 (reading nets c.end_p-p.result)) +ℤ to_z w64 (of_z w64 c.gained-more.result))) in
    let e : to_z w64 (of_z w64 (reading (set nets c.end_p-p.result y) c.end_q-q.result)) ≡ reading (set nets c.end_p-p.result y) c.end_q-q.result = search rules in
    let at_q = e ∙ ap (reading (set nets c.end_p-p.result y)) c.end_q-q.ensures ∙ ap (λ (p : ℕ). reading (set nets p y) (q_on c.args.self.now.board c.args.j)) c.end_p-p.ensures in
    let more = flow_on c.args.self.now.board c.args.self.now.stretches c.args.stored.now c.args.s.now c.args.j -ℤ flow_on c.args.self.now.board c.args.self.now.stretches c.args.stored.now c.args.volts.now c.args.j in
    let then = reading nets (p_on c.args.self.now.board c.args.j) +ℤ more in
    rw (at_q, p_then c.before, more_is c.before.before) (minus_fits (reading (set nets (p_on c.args.self.now.board c.args.j) then) (q_on c.args.self.now.board c.args.j)) more (q_fits _ _ _ _ _ c.requires.0 c.requires.1 c.requires.2 c.requires.3 then (pos 0) refl))

pub returns : goal.returns
returns c =
    let nets = c.args.nets.now in
    let y = to_z w64 (of_z w64 (to_z w64 (of_z w64 (reading nets c.end_p-p.result)) +ℤ to_z w64 (of_z w64 c.gained-more.result))) in
    let e : to_z w64 (of_z w64 (reading (set nets c.end_p-p.result y) c.end_q-q.result)) ≡ reading (set nets c.end_p-p.result y) c.end_q-q.result = search rules in
    let at_q = e ∙ ap (reading (set nets c.end_p-p.result y)) c.end_q-q.ensures ∙ ap (λ (p : ℕ). reading (set nets p y) (q_on c.args.self.now.board c.args.j)) c.end_p-p.ensures in
    let z = to_z w64 (of_z w64 (to_z w64 (of_z w64 (reading (set nets c.end_p-p.result y) c.end_q-q.result)) -ℤ to_z w64 (of_z w64 c.gained-more.result))) in
    let q_then : z ≡ reading (set nets (p_on c.args.self.now.board c.args.j) y) (q_on c.args.self.now.board c.args.j) -ℤ (flow_on c.args.self.now.board c.args.self.now.stretches c.args.stored.now c.args.s.now c.args.j -ℤ flow_on c.args.self.now.board c.args.self.now.stretches c.args.stored.now c.args.volts.now c.args.j) = to_z-of_z (overflow_sub-nets c) ∙ rw (at_q, more_is c.before.before) in
    let told = element_more _ _ _ _ _ c.requires.0 c.requires.1 c.requires.2 c.requires.3 y z (p_then c.before) q_then in
    subst (λ (p : ℕ). Shifted c.args.self.now.board c.args.self.now.stretches c.args.stored.now c.args.volts.now c.args.s.now (c.args.j + 1) (set (set nets p y) c.end_q-q.result z)) (sym c.end_p-p.ensures)
    (subst (λ (q : ℕ). Shifted c.args.self.now.board c.args.self.now.stretches c.args.stored.now c.args.volts.now c.args.s.now (c.args.j + 1) (set (set nets (p_on c.args.self.now.board c.args.j) y) q z)) (sym c.end_q-q.ensures) told)
