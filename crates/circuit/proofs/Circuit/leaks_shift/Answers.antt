use Rattle.std.proofs.Common.{◌≡◌, ◌≤◌, ◌∙◌, ap, pos, ◌-ℤ◌, ◌*ℤ◌, arith, rules, w64, to_z, of_z, to_z-of_z}
use Rattle.std.proofs.lemmas.Int.{to_z_pos}
use Rattle.units.proofs.Sizes.{fits_signed, plus_fits, minus_is}
use Rattle.network.specs.Network.{reading}
use Rattle.circuit.specs.Board.{leak_on, nodes_on}
use Rattle.circuit.proofs.ShiftLaws.{leaks_more, leak_fits}
use Rattle.circuit.proofs.Circuit.leaks_shift.Goals.{In-loop-i}
use Rattle.circuit.proofs.Circuit.leaks_shift.Goals as goal

there : (c : In-loop-i) → c.loop-i.i ≤ nodes_on c.args.self.now.board
there c = omega (arith, c.nodes-nodes.ensures)

-- both factors
leak_is : (c : In-loop-i) → to_z w64 c.leak-leak.result ≡ pos (leak_on c.args.self.now.board)
leak_is c = to_z_pos w64 _ (omega (arith, c.leak-leak.ensures, c.requires.0.ready.laid.limits.leak_small)) ∙ ap pos c.leak-leak.ensures

way_is : (c : In-loop-i) → to_z w64 (of_z w64 (to_z w64 (of_z w64 (reading c.args.s.now c.loop-i.i)) -ℤ to_z w64 (of_z w64 (reading c.args.volts.now c.loop-i.i)))) ≡ reading c.args.s.now c.loop-i.i -ℤ reading c.args.volts.now c.loop-i.i
way_is c =
    let s = reading c.args.s.now c.loop-i.i in
    let v = reading c.args.volts.now c.loop-i.i in
    let e : to_z w64 (of_z w64 s) ≡ s = search rules in
    let f : to_z w64 (of_z w64 v) ≡ v = search rules in
    minus_is _ _ s v e f (omega (arith, c.requires.1.ranged _ (there c), c.requires.0.ranged _ (there c)))

pub overflow_mul-nets : goal.overflow_mul-nets
overflow_mul-nets c =
    let i = c.loop-i.i in
    rw (leak_is c.before.before, way_is c.before.before) (fits_signed (pos (leak_on c.args.self.now.board) *ℤ (reading c.args.s.now i -ℤ reading c.args.volts.now i)) (omega (arith, leak_fits _ _ _ _ _ c.requires.0 c.requires.1 i (there c.before.before))))

pub overflow_add-nets : goal.overflow_add-nets
overflow_add-nets c =
    let l = c.loop-i in
    let i = l.i in
    let e : to_z w64 (of_z w64 (reading l.nets i)) ≡ reading l.nets i = search rules in
    rw (to_z-of_z (overflow_mul-nets c.before), leak_is c.before.before.before, way_is c.before.before.before, e)
    (plus_fits (reading l.nets i) (pos (leak_on c.args.self.now.board) *ℤ (reading c.args.s.now i -ℤ reading c.args.volts.now i)) (rw (l.invariant.1.later i (omega arith) (there c.before.before.before)) (leak_fits _ _ _ _ _ c.requires.0 c.requires.1 i (there c.before.before.before))))

pub loop-i-preserved : goal.loop-i-preserved
loop-i-preserved c =
    let l = c.loop-i in
    let e : to_z w64 (of_z w64 (reading l.nets l.i)) ≡ reading l.nets l.i = search rules in
    (omega arith, leaks_more _ _ _ _ _ c.requires.0 c.requires.1 l.invariant.1 (there c.before.before.before) (to_z-of_z (overflow_add-nets c) ∙ rw (to_z-of_z (overflow_mul-nets c.before), leak_is c.before.before.before, way_is c.before.before.before, e)))
