use Rattle.std.proofs.Common.{◌≡◌, ℕ, ◌%◌, ◌<◌, ◌≤◌, sym, mod-lt, arith}
use Rattle.units.proofs.RatioLaws.{nearest_rises}
use Rattle.units.proofs.ratio.nearest.Goals as goal

-- `units::ratio::nearest` meets its contract. What is left over is below the divisor, and the quotient below the number divided where anything
-- is. Assumes nothing.
above : (b : ℕ) → (b ≡ 0 → ⊥) → 1 ≤ b
above b some = omega (arith, some)

over : (a b : ℕ) → (b ≡ 0 → ⊥) → a % b < b
over a b some = mod-lt a (above b some)

pub returns : goal.returns
returns c =
    let a = c.args.a in
    let b = c.args.b in
    let some = c.if-b-eq0.false in
    sym (nearest_rises a b (above b some) (omega (arith, c.if-over-b.false, over a b some)))
