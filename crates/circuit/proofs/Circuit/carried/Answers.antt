use Rattle.std.proofs.Common.{◌≡◌, true, false, ◌≤◌, ◌∙◌, sym, ap, pos, ◌*ℤ◌, arith, rules, w64, to_z, of_z, to_z-of_z}
use Rattle.std.proofs.lemmas.Int.{to_z_pos}
use Rattle.units.proofs.Sizes.{abs_mul, fits_signed, minus_fits}
use Rattle.network.specs.Network.{conductance_limit}
use Rattle.network.specs.Kind.{has_curve}
use Rattle.network.proofs.Ranges.{product_fits}
use Rattle.circuit.specs.Board.{kind_on, conductance_on}
use Rattle.circuit.proofs.BoardLaws.{curve_told, straight_told, curve_current_lem, conductance_current, conductance_fits_lem}
use Rattle.circuit.proofs.Circuit.carried.Goals as goal

pub current-requires : goal.current-requires
current-requires c =
    let curved : has_curve (kind_on c.args.self.now.board c.args.j) ≡ true = curve_told _ _ c.requires.0 c.args.j c.requires.1 (sym c.conductance-g.ensures ∙ c.if-g-eq0.true) in
    (rw (c.curve.ensures.0, c.curve.ensures.1, c.curve.ensures.2) (c.requires.0.curves c.args.j c.requires.1 curved), rw (to_z-of_z c.ranges.v) c.requires.3)

pub returns-then-g-eq0 : goal.returns-then-g-eq0
returns-then-g-eq0 c =
    let curved : has_curve (kind_on c.args.self.now.board c.args.j) ≡ true = curve_told _ _ c.requires.0 c.args.j c.requires.1 (sym c.conductance-g.ensures ∙ c.if-g-eq0.true) in
    let e : to_z w64 (of_z w64 c.current.result) ≡ c.current.result = search rules in
    let is = rw (c.curve.ensures.0, c.curve.ensures.1, c.curve.ensures.2, to_z-of_z c.ranges.v) at c.current.ensures in
    e ∙ is ∙ curve_current_lem c.args.self.now.board c.args.self.now.stretches c.args.j curved c.args.x c.args.v

-- an element that is told no curve has a conductance
straight : (c : goal.Else-g-eq0) → has_curve (kind_on c.args.self.now.board c.args.j) ≡ false
straight c = straight_told _ _ c.requires.0 c.args.j c.requires.1 (λ z. c.if-g-eq0.false (c.conductance-g.ensures ∙ z))

small : (c : goal.Else-g-eq0) → conductance_on c.args.self.now.board c.args.j ≤ conductance_limit
small c = conductance_fits_lem _ _ c.requires.0 c.args.j c.requires.1 (straight c)

pub overflow_cast-result : goal.overflow_cast-result
overflow_cast-result c = record { sfits = omega (arith, c.conductance-g.ensures, small c) }

conductance_is : (c : goal.Else-g-eq0) → to_z w64 c.conductance-g.result ≡ pos (conductance_on c.args.self.now.board c.args.j)
conductance_is c = to_z_pos w64 _ (overflow_cast-result c).sfits ∙ ap pos c.conductance-g.ensures

pub overflow_mul-result : goal.overflow_mul-result
overflow_mul-result c =
    let g = conductance_on c.args.self.now.board c.args.j in
    rw (conductance_is c, to_z-of_z c.ranges.v) (fits_signed (pos g *ℤ c.args.v) (omega (arith, abs_mul (pos g) c.args.v, product_fits g c.args.v (small c) c.requires.3)))

pub overflow_sub-result : goal.overflow_sub-result
overflow_sub-result c =
    let g = conductance_on c.args.self.now.board c.args.j in
    rw (to_z-of_z (overflow_mul-result c), conductance_is c, to_z-of_z c.ranges.v, to_z-of_z c.ranges.x)
    (minus_fits (pos g *ℤ c.args.v) c.args.x (omega (arith, abs_mul (pos g) c.args.v, c.requires.2, product_fits g c.args.v (small c) c.requires.3)))

pub returns : goal.returns
returns c =
    to_z-of_z (overflow_sub-result c)
    ∙ rw (to_z-of_z (overflow_mul-result c), conductance_is c, to_z-of_z c.ranges.v, to_z-of_z c.ranges.x) (conductance_current c.args.self.now.board c.args.self.now.stretches c.args.j (straight c) c.args.x c.args.v)
