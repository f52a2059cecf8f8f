use Rattle.std.proofs.Common.{◌≡◌, refl, ℕ, ◌*◌, ◌∙◌, ap, pos, ◌*ℤ◌, arith, rules, w64, to_z, of_z, to_z-of_z}
use Rattle.std.proofs.lemmas.Int.{to_z_pos}
use Rattle.units.proofs.Sizes.{fits_signed}
use Rattle.circuit.specs.Board.{plain_conductance, across_on}
use Rattle.circuit.proofs.BoardLaws.{ends}
use Rattle.circuit.proofs.AdvanceLaws.{conductance_small, twice_fits}
use Rattle.circuit.proofs.Circuit.twice.Goals as goal

pub overflow_mul-result : goal.overflow_mul-result
overflow_mul-result c = record { fits = omega (arith, c.plain_conductance.ensures, conductance_small c.args.self.now.board c.args.self.now.stretches c.args.volts.now c.requires.0 c.requires.1 c.args.j c.requires.2) }

pub overflow_cast-result : goal.overflow_cast-result
overflow_cast-result c = record { sfits = omega (arith, c.plain_conductance.ensures, conductance_small c.args.self.now.board c.args.self.now.stretches c.args.volts.now c.requires.0 c.requires.1 c.args.j c.requires.2) }

pub across-requires : goal.across-requires
across-requires c = ends c.args.self.now.board c.args.self.now.stretches c.requires.0 c.args.j c.requires.2 c.args.volts.now c.requires.1

-- both factors
conductance_is : (c : goal.After-across) → to_z w64 (2 * c.plain_conductance.result) ≡ pos (2 * plain_conductance c.args.self.now.board c.args.j)
conductance_is c = to_z_pos w64 _ (omega (arith, c.plain_conductance.ensures, conductance_small c.args.self.now.board c.args.self.now.stretches c.args.volts.now c.requires.0 c.requires.1 c.args.j c.requires.2)) ∙ ap (λ (n : ℕ). pos (2 * n)) c.plain_conductance.ensures

across_is : (c : goal.After-across) → to_z w64 (of_z w64 c.across.result) ≡ across_on c.args.self.now.board c.args.volts.now c.args.j
across_is c = let e : to_z w64 (of_z w64 c.across.result) ≡ c.across.result = search rules in e ∙ c.across.ensures

pub overflow_mul-result-2 : goal.overflow_mul-result-2
overflow_mul-result-2 c =
    rw (conductance_is c, across_is c)
    (fits_signed (pos (2 * plain_conductance c.args.self.now.board c.args.j) *ℤ across_on c.args.self.now.board c.args.volts.now c.args.j) (omega (arith, twice_fits c.args.self.now.board c.args.self.now.stretches c.args.volts.now c.requires.0 c.requires.1 c.args.j c.requires.2)))

pub returns : goal.returns
returns c =
    rw (to_z-of_z (overflow_mul-result-2 c), conductance_is c, across_is c)
    record { value = refl; small = twice_fits c.args.self.now.board c.args.self.now.stretches c.args.volts.now c.requires.0 c.requires.1 c.args.j c.requires.2 }
