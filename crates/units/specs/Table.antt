-- Lists that are made place by place. Assumes nothing.
use Rattle.std.specs.Prelude.{ℕ, zero, suc, ◌+◌, Bool, true, cond, ◌&&◌, List, [], ◌∷◌, ◌++◌, set, nat_le, nat_lt}

-- f 0, f 1, .., f (n - 1)
unfoldable pub tabulate {ℓ} : {A : Type ℓ} → (ℕ → A) → ℕ → List A
tabulate f zero = []
tabulate f (suc n) = f 0 ∷ tabulate (λ (j : ℕ). f (suc j)) n

-- an array of the code: f 0, .., f (n - 1), and from there on up to its size what stands for none
unfoldable pub padded {ℓ} : {A : Type ℓ} → A → ℕ → (ℕ → A) → ℕ → List A
padded none size f n = tabulate (λ (j : ℕ). cond (nat_lt j n) (f j) none) size

-- l with these values in it from `at` on, one store after the other
unfoldable pub overlaid {ℓ} : {A : Type ℓ} → List A → ℕ → List A → List A
overlaid l at [] = l
overlaid l at (v ∷ values) = overlaid (set l at v) (at + 1) values

-- some lists, one after the other: f 0, f 1, .., f (n - 1)
unfoldable pub in_turn {ℓ} : {A : Type ℓ} → (ℕ → List A) → ℕ → List A
in_turn f zero = []
in_turn f (suc n) = in_turn f n ++ f n

-- n lies from low to high
abbrev pub between : ℕ → ℕ → ℕ → Bool
between low high n = nat_le low n && nat_le n high

-- f holds of 0, 1, .., n - 1
unfoldable pub every : (ℕ → Bool) → ℕ → Bool
every f zero = true
every f (suc n) = every f n && f n

-- of the numbers below n those of which f holds, in rising order
unfoldable pub numbers_where : (ℕ → Bool) → ℕ → List ℕ
numbers_where f zero = []
numbers_where f (suc n) = numbers_where f n ++ cond (f n) (n ∷ []) []
