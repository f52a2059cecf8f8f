-- Hold: how far one assignment can stand above another. And Start: where no net current is below zero, no low assignment passes. Assumes nothing.
use mathlib.Core.Path.{◌≡◌, sym, ◌∙◌}
use mathlib.Core.Logic.{⊎_elim}
use Prim.Native.Nat.{ℕ, zero, suc, ◌+◌, ◌*◌, ◌≤◌, ◌<◌}
use native.Mathlib.Omega.{arith}
use lib.IntN.{ℤ, pos}
use lib.Signed.{◌≤ℤ◌}
use Rattle.units.specs.Voltage.{voltage_limit}
use Rattle.units.specs.Integer.{up, dn}
use Rattle.units.proofs.Integers.{signs, pos_law, abs_law, eq_out, Rise, Reach, decide_n}
use Rattle.network.specs.Network.{Network, Fixed, Free, net, held, steepest, Wired}
use Rattle.network.specs.Sample.{Drives, Above}
use Rattle.network.proofs.Nodes.{by_node}
use Rattle.network.proofs.Compare.{compare}

-- some number that w is nowhere more above u
apart : (ℕ → ℤ) → (ℕ → ℤ) → ℕ → ℕ
apart w u zero = up (w 0) + dn (u 0)
apart w u (suc n) = apart w u n + up (w (suc n)) + dn (u (suc n))

apart_law : (w u : ℕ → ℤ) (n j : ℕ) → j ≤ n → Reach (u j) (apart w u n) (w j)
unfolding apart
apart_law w u zero j h = let e : j ≡ 0 = omega arith in rw e (omega arith)
apart_law w u (suc n) j h = ⊎_elim
    (λ (m : j ≤ n). omega (arith, apart_law w u n j m))
    (λ (m : n < j). let e : j ≡ suc n = omega arith in rw e (omega arith)) (decide_n j n)

-- a bound that can always be lowered by one comes down to M: no greatest node has to be found
pub squeeze : (w u : ℕ → ℤ) (n M : ℕ) → ((m : ℕ) → M ≤ m → ((j : ℕ) → j ≤ n → Reach (u j) (suc m) (w j)) → (j : ℕ) → j ≤ n → Reach (u j) m (w j)) → (j : ℕ) → j ≤ n → Reach (u j) M (w j)
squeeze w u n M down = go (apart w u n) (λ j h. omega (arith, apart_law w u n j h))
  where
    go : (r : ℕ) → ((j : ℕ) → j ≤ n → Reach (u j) (M + r) (w j)) → (j : ℕ) → j ≤ n → Reach (u j) M (w j)
    go zero h = λ j l. omega (arith, h j l)
    go (suc r) h = go r (down (M + r) (omega arith) (λ j l. omega (arith, h j l)))

-- Hold: w is not above u at fixed nodes. If no free node i and no m from M on can have net w i ≥ net u i + held i × (m + 1), then w is at most M above u
pub hold : (k : ℕ) (N : Network) (x w u : ℕ → ℤ) (M : ℕ) → Wired N → ((j : ℕ) → Fixed N j → Reach (u j) 0 (w j)) → ((i m : ℕ) → Free N i → M ≤ m → Rise (net k N x u i) (held N i * suc m) (net k N x w i) → ⊥) → (j : ℕ) → j ≤ N.nodes → Reach (u j) M (w j)
hold k N x w u M wired fixed no_more = squeeze w u N.nodes M down
  where
    down : (m : ℕ) → M ≤ m → ((j : ℕ) → j ≤ N.nodes → Reach (u j) (suc m) (w j)) → (j : ℕ) → j ≤ N.nodes → Reach (u j) m (w j)
    down m l h = by_node N (λ (j : ℕ). Reach (u j) m (w j)) (λ j f. omega (arith, fixed j f)) (λ j f. ⊎_elim
        (λ (a : up (w j) + dn (u j) ≤ up (u j) + dn (w j) + m). a)
        (λ (a : up (u j) + dn (w j) + m < up (w j) + dn (u j)). absurd (no_more j m f l (compare k N x w u j (suc m) wired (record { every = h; fixed = fixed }) (omega arith))))
        (decide_n _ _))

-- two assignments with the same drives agree at every fixed node
pub same_fixed : {k : ℕ} {N : Network} {d : ℕ → ℤ} (w u : ℕ → ℤ) → Drives k N d w → Drives k N d u → (j : ℕ) → Fixed N j → w j ≡ u j
same_fixed w u a b zero h = a.ground ∙ sym b.ground
same_fixed w u a b (suc j) h = a.driven j h ∙ sym (b.driven j h)

-- drives are read at fixed nodes only
pub keep_drives : {k : ℕ} {N : Network} {d : ℕ → ℤ} (w u : ℕ → ℤ) → Drives k N d w → ((j : ℕ) → Fixed N j → u j ≡ w j) → Drives k N d u
keep_drives w u h same = record { ground = same 0 (omega arith) ∙ h.ground; driven = λ j l. same (suc j) l ∙ h.driven j l }

pub leak_held : (N : Network) (i : ℕ) → N.leak ≤ held N i
unfolding held
leak_held N i = omega arith

pub leak_steepest : (N : Network) (i : ℕ) → N.leak ≤ steepest N i
unfolding steepest
leak_steepest N i = omega arith

-- Start: our drives, and no net current below zero
pub start : (N : Network) (x d u : ℕ → ℤ) → Wired N → 1 ≤ N.leak → Drives 1 N d u → ((i : ℕ) → Free N i → pos 0 ≤ℤ net 1 N x u i) → Above N x d u
start N x d u wired leaks drives high w legal low j there =
    omega (
      signs,
      hold 1 N x w u 0 wired (λ i f. omega (arith, eq_out (same_fixed w u legal.drives drives i f)))
          (λ i m free l r. omega (signs, pos_law 0, high i free, low i free, leak_held N i)) j there,
    )

-- the top of the range needs no reason at all
pub top_start : (N : Network) (x d u : ℕ → ℤ) → Drives 1 N d u → ((i : ℕ) → Free N i → u i ≡ pos voltage_limit) → Above N x d u
top_start N x d u drives top w legal low = by_node N (λ (j : ℕ). w j ≤ℤ u j)
    (λ j f. omega (signs, same_fixed w u legal.drives drives j f))
    (λ j f. omega (signs, top j f, pos_law voltage_limit, legal.range j f, abs_law (w j)))
