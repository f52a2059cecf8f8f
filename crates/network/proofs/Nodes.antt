-- Going through the nodes, or any numbers below some n. Assumes nothing.
use mathlib.Core.Path.{◌≡◌}
use mathlib.Core.Logic.{◌⊎◌, inl, inr, ⊎_elim}
use Prim.Native.Nat.{ℕ, zero, suc, ◌≤◌, ◌<◌}
use native.Mathlib.Omega.{arith}
use Rattle.units.proofs.Integers.{decide_n}
use Rattle.network.specs.Network.{Network, Fixed, Free}

-- a node that is there is fixed or free
pub by_node : (N : Network) (P : ℕ → Type 0) → ((j : ℕ) → Fixed N j → P j) → ((j : ℕ) → Free N j → P j) → (j : ℕ) → j ≤ N.nodes → P j
by_node N P fixed free j there = ⊎_elim (λ (f : j ≤ N.driven). fixed j f) (λ (f : N.driven < j). free j (f, there)) (decide_n j N.driven)

-- one of the first n numbers has P, or all have Q
pub find : (P Q : ℕ → Type 0) (n : ℕ) → ((j : ℕ) → j < n → P j ⊎ Q j) → ((j : ℕ) × (j < n) × P j) ⊎ ((j : ℕ) → j < n → Q j)
find P Q zero each = inr (λ j l. absurd (omega arith))
find P Q (suc n) each = ⊎_elim
    (λ (f : (j : ℕ) × (j < n) × P j). inl (f.0, omega (arith, f.1), f.2))
    (λ (all : (j : ℕ) → j < n → Q j). ⊎_elim
    (λ (p : P n). inl (n, omega arith, p))
    (λ (q : Q n). inr (λ j l. ⊎_elim (λ (m : suc j ≤ n). all j m) (λ (m : n < suc j). let e : j ≡ n = omega arith in rw e q) (decide_n (suc j) n)))
    (each n (omega arith)))
    (find P Q n (λ j l. each j (omega arith)))
