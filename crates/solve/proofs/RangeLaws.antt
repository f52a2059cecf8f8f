-- `all` and `any` over a range, said of the numbers in it and not of a list. Assumes nothing.
use mathlib.Core.Path.{◌≡◌, subst}
use Prim.Native.Nat.{ℕ, ◌+◌, ◌-◌, ◌≤◌, ◌<◌}
use native.Mathlib.Omega.{arith}
use lib.ListN.{length}
use Rattle.std.specs.List.{range_with_len, AllWithin, HoldsAt}
use Rattle.std.proofs.lemmas.List.FromFn.{length-range_with_len, get_or-range_with_len}

-- P holds at each place of the range's list, or at one
abbrev pub Each : (P : ℕ → Type 0) (a b : ℕ) → Type 0
Each P a b = AllWithin P (range_with_len a (b - a)) 0 (length (range_with_len a (b - a)))

abbrev pub One : (P : ℕ → Type 0) (a b : ℕ) → Type 0
One P a b = (k : ℕ) × (k < length (range_with_len a (b - a))) × HoldsAt P (range_with_len a (b - a)) k

module _ (P : ℕ → Type 0) (a b : ℕ) where
  long : length (range_with_len a (b - a)) ≡ b - a
  long = length-range_with_len a (b - a)

  pub each_of : Each P a b → (k : ℕ) → a ≤ k → k < b → P k
  each_of h k l m = subst P {x = a + (k - a)} {y = k} (omega arith) (subst P (get_or-range_with_len a (b - a) (k - a) 0 (omega arith)) (h (k - a) 0 (omega arith) (omega (arith, long))))

  pub one_of : One P a b → (k : ℕ) × (a ≤ k) × (k < b) × P k
  one_of h =
      let l : h.0 < b - a = omega (arith, long, h.1) in
      (a + h.0, omega arith, omega arith, subst P (get_or-range_with_len a (b - a) h.0 0 l) (h.2 0))
