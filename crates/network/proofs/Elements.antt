-- A node's sums go by its own elements: over their list each is what it is over all elements. And each element is in two lists at most. Assumes nothing.
use mathlib.Core.Path.{◌≡◌, refl, ap}
use mathlib.Core.Bool.{Bool, true, false, cond, true≢false}
use Prim.Native.Nat.{ℕ, zero, suc, ◌+◌, ◌*◌, ◌≤◌, ◌<◌}
use native.Mathlib.Omega.{arith}
use lib.Dec.{eqb, leb}
use lib.IntN.{ℤ, pos, neg_ℤ, ◌+ℤ◌, ◌-ℤ◌, ◌*ℤ◌}
use lib.ListN.{length, get_or}
use borrow.Author.Tests.{eqb-true, ne_eqb}
use Rattle.units.specs.Integer.{sum, total}
use Rattle.units.specs.Table.{numbers_where}
use Rattle.units.proofs.NumbersWhere.{named_none, named_many, sum_named, total_named}
use Rattle.units.proofs.Sizes.{total_same, total_both, total_under, total_small}
use Rattle.network.specs.Network.{Branch, Network, pick, atNode, current, leaving, net, conductance_of, steepest_of, held_by_branch, held, steepest_by, steepest, Wired}
use Rattle.network.specs.Elements.{touches, elements_at}

-- ---- what a branch adds at a node that is no end of it

no_end {ℓ} : {A : Type ℓ} (a b c : A) (s t : Bool) → pick s t true true false ≡ false → pick s t a b c ≡ c
no_end a b c true t e = absurd (true≢false e)
no_end a b c false true e = absurd (true≢false e)
no_end a b c false false e = refl

none_leaves : (k : ℕ) (b : Branch) (x : ℤ) (w : ℕ → ℤ) (i : ℕ) → atNode b i true true false ≡ false → leaving k b x w i ≡ pos 0
unfolding leaving
none_leaves k b x w i e = let c = current k b.law x (w b.p -ℤ w b.q) in no_end c (neg_ℤ c) (pos 0) (eqb i b.p) (eqb i b.q) e

none_held : (N : Network) (b : Branch) (i : ℕ) → atNode b i true true false ≡ false → held_by_branch N b i ≡ 0
unfolding held_by_branch
none_held N b i e = let g = conductance_of b.law in no_end (cond (leb b.q N.driven) g 0) (cond (leb b.p N.driven) g 0) 0 (eqb i b.p) (eqb i b.q) e

none_steepest : (b : Branch) (i : ℕ) → atNode b i true true false ≡ false → steepest_by b i ≡ 0
unfolding steepest_by
none_steepest b i e = no_end (steepest_of b.law) (steepest_of b.law) 0 (eqb i b.p) (eqb i b.q) e

-- ---- the sums over the list

module _ (N : Network) (i : ℕ) where
  pub net_over : (k : ℕ) (x w : ℕ → ℤ) → pos N.leak *ℤ w i +ℤ sum (λ (t : ℕ). leaving k (N.branch (get_or (elements_at N i) t 0)) (x (get_or (elements_at N i) t 0)) w i) (length (elements_at N i)) ≡ net k N x w i
  unfolding net
  net_over k x w = ap (λ (z : ℤ). pos N.leak *ℤ w i +ℤ z) (sum_named (touches N i) (λ (j : ℕ). leaving k (N.branch j) (x j) w i) (λ j e. none_leaves k (N.branch j) (x j) w i e) N.count)

  pub held_over : N.leak + total (λ (t : ℕ). held_by_branch N (N.branch (get_or (elements_at N i) t 0)) i) (length (elements_at N i)) ≡ held N i
  unfolding held
  held_over = ap (λ (n : ℕ). N.leak + n) (total_named (touches N i) (λ (j : ℕ). held_by_branch N (N.branch j) i) (λ j e. none_held N (N.branch j) i e) N.count)

  pub steepest_over : N.leak + total (λ (t : ℕ). steepest_by (N.branch (get_or (elements_at N i) t 0)) i) (length (elements_at N i)) ≡ steepest N i
  unfolding steepest
  steepest_over = ap (λ (n : ℕ). N.leak + n) (total_named (touches N i) (λ (j : ℕ). steepest_by (N.branch j) i) (λ j e. none_steepest (N.branch j) i e) N.count)

  -- a node that is not there has the leak alone
  module _ (wired : Wired N) (beyond : N.nodes < i) where
    apart : (j : ℕ) → j < N.count → touches N i j ≡ false
    apart j l = rw (ne_eqb i (N.branch j).p (λ e. omega (arith, wired.p_there j l)), ne_eqb i (N.branch j).q (λ e. omega (arith, wired.q_there j l)))

    pub held_beyond : held N i ≡ N.leak
    unfolding held
    held_beyond = omega (arith, total_small (λ (j : ℕ). held_by_branch N (N.branch j) i) 0 N.count (λ j l. omega (arith, none_held N (N.branch j) i (apart j l))))

    pub steepest_beyond : steepest N i ≡ N.leak
    unfolding steepest
    steepest_beyond = omega (arith, total_small (λ (j : ℕ). steepest_by (N.branch j) i) 0 N.count (λ j l. omega (arith, none_steepest (N.branch j) i (apart j l))))

-- ---- each element is in two lists at most

-- among the first m nodes there is one with the number a at most, and none if they all come before it
once : (a m : ℕ) → (m ≤ a → total (λ (i : ℕ). cond (eqb i a) 1 0) m ≡ 0) × (total (λ (i : ℕ). cond (eqb i a) 1 0) m ≤ 1)
unfolding total
once a zero = (λ h. refl, omega arith)
once a (suc m) = go (once a m) (eqb m a) refl
  where
    go : (m ≤ a → total (λ (i : ℕ). cond (eqb i a) 1 0) m ≡ 0) × (total (λ (i : ℕ). cond (eqb i a) 1 0) m ≤ 1) → (b : Bool) → eqb m a ≡ b → (suc m ≤ a → total (λ (i : ℕ). cond (eqb i a) 1 0) m + cond b 1 0 ≡ 0) × (total (λ (i : ℕ). cond (eqb i a) 1 0) m + cond b 1 0 ≤ 1)
    go so true e = let is = eqb-true m a e in (λ h. absurd (omega (arith, is)), omega (arith, so.0 (omega (arith, is))))
    go so false e = (λ h. omega (arith, so.0 (omega arith)), omega (arith, so.1))

module _ (N : Network) where
  two_ends : (j m : ℕ) → total (λ (i : ℕ). cond (touches N i j) 1 0) m ≤ 2
  two_ends j m =
      let p = (N.branch j).p in
      let q = (N.branch j).q in
      omega (
        arith,
        total_under (λ (i : ℕ). cond (touches N i j) 1 0) (λ (i : ℕ). cond (eqb i p) 1 0 + cond (eqb i q) 1 0) m (λ i l. each (eqb i p) (eqb i q)),
        total_both (λ (i : ℕ). cond (eqb i p) 1 0) (λ (i : ℕ). cond (eqb i q) 1 0) m,
        (once p m).1,
        (once q m).1,
      )
    where
      each : (s t : Bool) → cond (pick s t true true false) 1 0 ≤ cond s 1 0 + cond t 1 0
      each true t = omega arith
      each false true = omega arith
      each false false = omega arith

  few_below : (m n : ℕ) → total (λ (i : ℕ). length (numbers_where (touches N i) n)) m ≤ 2 * n
  few_below m zero = omega (arith, total_small (λ (i : ℕ). length (numbers_where (touches N i) 0)) 0 m (λ i l. omega (arith, named_none (touches N i))))
  few_below m (suc n) = omega (
    arith,
    total_same (λ (i : ℕ). length (numbers_where (touches N i) (suc n))) (λ (i : ℕ). length (numbers_where (touches N i) n) + cond (touches N i n) 1 0) m (λ i l. named_many (touches N i) n),
    total_both (λ (i : ℕ). length (numbers_where (touches N i) n)) (λ (i : ℕ). cond (touches N i n) 1 0) m,
    few_below m n,
    two_ends n m,
  )

  pub few_in_lists : (m : ℕ) → total (λ (i : ℕ). length (elements_at N i)) m ≤ 2 * N.count
  few_in_lists m = few_below m N.count
