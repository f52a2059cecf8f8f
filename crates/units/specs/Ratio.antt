-- A quotient of whole numbers to the nearest whole number, halves upward. Assumes nothing.
use Rattle.std.specs.Prelude.{◌≡◌, ℕ, ◌+◌, ◌-◌, ◌*◌, ◌/◌, ◌≤◌}

-- a / b to the nearest whole number, halves upward: the whole part of a / b + 1 / 2; anything divided by 0 is 0
abbrev pub nearest_ratio : ℕ → ℕ → ℕ
nearest_ratio a b = (a * 2 + b) / (b * 2)

-- how far apart two numbers are
abbrev pub distance : ℕ → ℕ → ℕ
distance x y = (x - y) + (y - x)

-- what nearest means for b above 0, in b-ths: n is at most 1 / 2 from a / b, and where it is just that far, the upper one of two
pub record NearestTo (a b n : ℕ) : Type 0 where
  pub near : distance a (n * b) * 2 ≤ b
  pub upper : distance a (n * b) * 2 ≡ b → a ≤ n * b
