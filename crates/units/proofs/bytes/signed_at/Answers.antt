use Rattle.std.proofs.Common.{◌∙◌, arith, rules, ◌≡◌, w64, to_z, of_z}
use native.Mathlib.Nat.{pow-le-pow_right}
use Rattle.units.proofs.LittleEndian.{half_twice, half_shifted}
use Rattle.units.proofs.bytes.signed_at.Goals as goal

pub from_bits-requires : goal.from_bits-requires
from_bits-requires g c =
    let n = g.row.N in
    rw (half_shifted n c.requires.0 c.requires.1) (omega (arith, c.unsigned_at.ensures.small, half_twice n c.requires.0, pow-le-pow_right {n = 256} (omega arith) c.requires.1))

pub returns : goal.returns
returns g c =
    let n = g.row.N in
    let e : to_z w64 (of_z w64 c.from_bits.result) ≡ c.from_bits.result = search rules in
    e ∙ rw (half_shifted n c.requires.0 c.requires.1, c.unsigned_at.ensures.value) at c.from_bits.ensures
