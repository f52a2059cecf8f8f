-- The nearest whole number to a quotient: what it is nearest to, how it follows from the quotient cut downward, where it is above 0, and that a
-- factor of both sides changes nothing. Assumes nothing.
use Rattle.std.proofs.Common.{◌≡◌, ℕ, ◌+◌, ◌*◌, ◌/◌, ◌%◌, ◌<◌, ◌≤◌, ◌↔◌, sym, ⊎_elim, mod-lt, mul_assoc, mul_comm, add-mul, one-mul, le-div_iff_mul-le, mul-add, mul_left_comm, arith}
use native.Mathlib.Nat.{div-eq_of_lt-le, mul-div-le, lt-mul-div-succ, mul-div-mul_left, div-add-mod}
use Rattle.units.specs.Ratio.{nearest_ratio, distance, NearestTo}
use Rattle.units.proofs.Integers.{decide_n}

pub nearest_says : (a b n : ℕ) → 0 < b → (nearest_ratio a b ≡ n) ↔ NearestTo a b n
nearest_says a b n p = (says, is)
  where
    -- n b in each product
    spread : (b * 2 * n ≡ n * b * 2) × (n * (b * 2) ≡ n * b * 2)
    spread = (simp (mul_assoc, mul_comm, mul_left_comm), sym (mul_assoc n b 2))

    says : nearest_ratio a b ≡ n → NearestTo a b n
    says e =
        let low : b * 2 * n ≤ a * 2 + b = rw e at (mul-div-le (a * 2 + b) (b * 2)) in
        let high : a * 2 + b < b * 2 * (n + 1) = rw e at (lt-mul-div-succ (a * 2 + b) {b = b * 2} (omega arith)) in
        record { near = omega (arith, spread, mul-add (b * 2) n 1); upper = λ half. omega (arith, spread, mul-add (b * 2) n 1) }

    -- half way up is not left below, for n b as x
    below : (x : ℕ) → distance a x * 2 ≤ b → (distance a x * 2 ≡ b → a ≤ x) → a * 2 < x * 2 + b
    below x near upper = ⊎_elim (λ (m : x * 2 + b ≤ a * 2). absurd (omega (arith, upper (omega arith)))) (λ (m : a * 2 < x * 2 + b). m) (decide_n (x * 2 + b) (a * 2))

    is : NearestTo a b n → nearest_ratio a b ≡ n
    is h = div-eq_of_lt-le (b * 2) (omega (arith, spread, h.near)) (omega (arith, spread, add-mul n 1 (b * 2), below (n * b) h.near h.upper))

-- the quotient cut downward, where less than half is left over; from half on, one more
module _ (a b : ℕ) (some : 0 < b) where
  parted : a ≡ a / b * b + a % b
  parted = rw (mul_comm (a / b) b) (sym (div-add-mod a b))

  pub nearest_stays : a % b * 2 < b → nearest_ratio a b ≡ a / b
  nearest_stays less = (nearest_says a b (a / b) some).1 (record { near = omega (arith, parted); upper = λ half. omega (arith, parted) })

  pub nearest_rises : b ≤ a % b * 2 → nearest_ratio a b ≡ a / b + 1
  nearest_rises more = (nearest_says a b (a / b + 1) some).1 (record { near = omega (arith, parted, next, mod-lt a some); upper = λ half. omega (arith, parted, next, mod-lt a some) })
    where
      next : (a / b + 1) * b ≡ a / b * b + b
      next = rw (add-mul (a / b) 1 b, one-mul b)

-- above 0 from a half on
pub nearest_some : (a b : ℕ) → 0 < b → b ≤ a * 2 → 1 ≤ nearest_ratio a b
nearest_some a b some half = (le-div_iff_mul-le {k = b * 2} (omega arith)).1 (omega arith)

pub nearest_scaled : (k a b : ℕ) → 0 < k → nearest_ratio (k * a) (k * b) ≡ nearest_ratio a b
nearest_scaled k a b some = rw (above, mul_assoc k b 2) (mul-div-mul_left {m = k} (a * 2 + b) (b * 2) some)
  where
    above : k * a * 2 + k * b ≡ k * (a * 2 + b)
    above = rw (mul_assoc k a 2, mul-add k (a * 2) b)
