-- The few functions on ℤ that definitions use and the library lacks. Assumes nothing.
use Rattle.std.specs.Prelude.{ℕ, zero, suc, ◌+◌, ◌-◌, ◌/◌, cond, ℤ, pos, negsuc, ◌+ℤ◌, int_le}

-- a number as the difference of two without a sign, one of which is 0
unfoldable pub up : ℤ → ℕ
up (pos n) = n
up (negsuc n) = 0

unfoldable pub dn : ℤ → ℕ
dn (pos n) = 0
dn (negsuc n) = suc n

-- the lower and the higher of two
unfoldable pub lower : ℤ → ℤ → ℤ
lower a b = cond (int_le a b) a b

unfoldable pub higher : ℤ → ℤ → ℤ
higher a b = cond (int_le a b) b a

-- f 0 + f 1 + .. + f (n - 1), summed from the left as a loop does
unfoldable pub sum : (ℕ → ℤ) → ℕ → ℤ
sum f zero = pos 0
sum f (suc n) = sum f n +ℤ f n

-- the same for numbers without a sign
unfoldable pub total : (ℕ → ℕ) → ℕ → ℕ
total f zero = 0
total f (suc n) = total f n + f n

-- n / s to a whole number, rounded up; rounded down it is the library's n / s
unfoldable pub rounded_up : ℕ → ℕ → ℕ
rounded_up n s = (n + (s - 1)) / s
