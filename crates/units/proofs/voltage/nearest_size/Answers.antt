use Rattle.std.proofs.Common.{◌≡◌, ℕ, ◌+◌, ◌/◌, ◌^◌, ◌<◌, T, ap, ◌∙◌, arith, w64, to_z, pos, rules}
use Rattle.std.proofs.lemmas.Int.{to_z_pos}
use lib.Ieee.{fits, binary64}
use Rattle.units.proofs.Rounding.{size_asks, size_gives}
use Rattle.units.proofs.voltage.nearest_size.Goals as goal

pub truncating_f64_to_u64-requires : goal.truncating_f64_to_u64-requires
truncating_f64_to_u64-requires c =
    let t : T (fits binary64 c.args.y) = search rules in
    let k = size_asks c.args.y t c.requires in
    record { lower_bound = k.0; upper_bound = k.1 }

-- twice y, cut to a whole number, is below 2 ^ 63
cut : (c : goal.After-truncating_f64_to_u64) → c.truncating_f64_to_u64.result < 2 ^ 63
cut c =
    let t : T (fits binary64 c.args.y) = search rules in
    rw c.truncating_f64_to_u64.ensures (size_gives c.args.y t c.requires).1

pub overflow_add-result : goal.overflow_add-result
overflow_add-result c = record { fits = omega (arith, cut c) }

pub overflow_cast-result : goal.overflow_cast-result
overflow_cast-result c = record { sfits = omega (arith, cut c) }

pub returns : goal.returns
returns c =
    let y = c.args.y in
    let t : T (fits binary64 y) = search rules in
    let small : (c.truncating_f64_to_u64.result + 1) / 2 < 2 ^ 63 = omega (arith, cut c) in
    let cast : to_z w64 ((c.truncating_f64_to_u64.result + 1) / 2) ≡ pos ((c.truncating_f64_to_u64.result + 1) / 2) = to_z_pos w64 _ small in
    record { value = cast ∙ ap (λ (r : ℕ). pos ((r + 1) / 2)) c.truncating_f64_to_u64.ensures ∙ (size_gives y t c.requires).0; result_bound = rw cast (omega (arith, cut c)) }
