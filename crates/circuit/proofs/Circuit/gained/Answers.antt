use Rattle.std.proofs.Common.{◌≡◌, true, false, ◌≤◌, ◌∙◌, sym, ap, pos, ◌-ℤ◌, arith, rules, w64, to_z, of_z, to_z-of_z}
use Rattle.std.proofs.lemmas.Int.{to_z_pos}
use Rattle.units.proofs.Sizes.{minus_fits, times_fits}
use Rattle.network.specs.Network.{conductance_limit}
use Rattle.network.specs.Kind.{has_curve}
use Rattle.circuit.specs.Board.{kind_on, conductance_on}
use Rattle.circuit.proofs.BoardLaws.{curve_told, straight_told, conductance_fits_lem, curve_current_lem, conductance_current}
use Rattle.circuit.proofs.NetLaws.{straight_gained, straight_fits}
use Rattle.circuit.proofs.Circuit.gained.Goals as goal

pub change-requires : goal.change-requires
change-requires c =
    let curved : has_curve (kind_on c.args.self.now.board c.args.j) ≡ true = curve_told _ _ c.requires.0 c.args.j c.requires.1 (sym c.conductance-g.ensures ∙ c.if-g-eq0.true) in
    rw (c.curve.ensures.0, c.curve.ensures.1, c.curve.ensures.2, to_z-of_z c.ranges.old, to_z-of_z c.ranges.new) (c.requires.0.curves c.args.j c.requires.1 curved, c.requires.2, c.requires.3)

pub returns-then-g-eq0 : goal.returns-then-g-eq0
returns-then-g-eq0 c =
    let curved : has_curve (kind_on c.args.self.now.board c.args.j) ≡ true = curve_told _ _ c.requires.0 c.args.j c.requires.1 (sym c.conductance-g.ensures ∙ c.if-g-eq0.true) in
    λ x.
    let e : to_z w64 (of_z w64 c.change.result) ≡ c.change.result = search rules in
    let k = rw (c.curve.ensures.0, c.curve.ensures.1, c.curve.ensures.2, to_z-of_z c.ranges.old, to_z-of_z c.ranges.new) at c.change.ensures in
    e ∙ k ∙ rw (curve_current_lem c.args.self.now.board c.args.self.now.stretches c.args.j curved x c.args.new, curve_current_lem c.args.self.now.board c.args.self.now.stretches c.args.j curved x c.args.old)

-- an element that is told no curve has a conductance
straight : (c : goal.Else-g-eq0) → has_curve (kind_on c.args.self.now.board c.args.j) ≡ false
straight c = straight_told _ _ c.requires.0 c.args.j c.requires.1 (λ z. c.if-g-eq0.false (c.conductance-g.ensures ∙ z))

small : (c : goal.Else-g-eq0) → conductance_on c.args.self.now.board c.args.j ≤ conductance_limit
small c = conductance_fits_lem _ _ c.requires.0 c.args.j c.requires.1 (straight c)

pub overflow_cast-result : goal.overflow_cast-result
overflow_cast-result c = record { sfits = omega (arith, c.conductance-g.ensures, small c) }

conductance_is : (c : goal.Else-g-eq0) → to_z w64 c.conductance-g.result ≡ pos (conductance_on c.args.self.now.board c.args.j)
conductance_is c = to_z_pos w64 _ (overflow_cast-result c).sfits ∙ ap pos c.conductance-g.ensures

way_is : (c : goal.Else-g-eq0) → to_z w64 (of_z w64 (to_z w64 (of_z w64 c.args.new) -ℤ to_z w64 (of_z w64 c.args.old))) ≡ c.args.new -ℤ c.args.old
way_is c = rw (to_z-of_z c.ranges.new, to_z-of_z c.ranges.old) (to_z-of_z (minus_fits c.args.new c.args.old (omega (arith, c.requires.2, c.requires.3))))

pub overflow_mul-result : goal.overflow_mul-result
overflow_mul-result c =
    rw (conductance_is c, way_is c) (times_fits (pos (conductance_on c.args.self.now.board c.args.j)) (c.args.new -ℤ c.args.old) (omega (arith, straight_fits (conductance_on c.args.self.now.board c.args.j) c.args.old c.args.new (small c) c.requires.2 c.requires.3)))

pub returns : goal.returns
returns c = λ x.
    let board = c.args.self.now.board in
    let stretches = c.args.self.now.stretches in
    let told = rw (conductance_current board stretches c.args.j (straight c) x c.args.new, conductance_current board stretches c.args.j (straight c) x c.args.old) at (straight_gained (conductance_on board c.args.j) x c.args.old c.args.new) in
    to_z-of_z (overflow_mul-result c) ∙ rw (conductance_is c, way_is c) told
