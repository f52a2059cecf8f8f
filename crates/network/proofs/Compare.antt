-- Compare, Steep and Scale: what two assignments say of a node's net current. Each first for one law, then for one branch, then summed.
-- `Rise a t b` is a + t ≤ b, `Reach a t b` is b ≤ a + t (units). Assumes nothing.
use mathlib.Core.Path.{◌≡◌, refl, sym, ◌∙◌, ap}
use mathlib.Core.Bool.{Bool, true, false, cond}
use mathlib.Core.Logic.{⊎_elim}
use Prim.Native.Nat.{ℕ, zero, suc, ◌+◌, ◌*◌, ◌≤◌, ◌<◌}
use native.Mathlib.Omega.{arith}
use native.Mathlib.Nat.{le_refl, mul-le-mul_left}
use lib.Dec.{eqb, leb, eqb→eq, leb→le}
use lib.IntN.{*ℤ-zero, ℤ, pos, neg_ℤ, ◌-ℤ◌, ◌*ℤ◌}
use lib.Signed.{◌≤ℤ◌, ◌<ℤ◌}
use Rattle.units.specs.Integer.{sum, total}
use Rattle.units.proofs.Integers.{signs, add_law, sub_law, neg_law, scale_law, scale_add, scale_sub, scale_neg, scale_one, scale_scale, Rise, Reach, decide}
use Rattle.network.specs.Network.{Law, conductance, curve, Branch, Network, Fixed, ramp, current, greatest, conductance_of, steepest_of, pick, leaving, net, held_by_branch, steepest_by, held, steepest, Wired}
use Rattle.network.specs.Sample.{Under}
use Rattle.network.proofs.Curves.{ramp_mono, ramp_steep, ramp_scale}

-- ---- one law

-- k times the voltage on the grid of k-ths gives k times the current
pub current_scale : (k : ℕ) (l : Law) (x v : ℤ) → current k l x (pos k *ℤ v) ≡ pos k *ℤ current 1 l x v
unfolding current
current_scale k (conductance g) x v =
    omega (signs, sub_law (pos g *ℤ (pos k *ℤ v)) (pos k *ℤ x), sub_law (pos k *ℤ (pos g *ℤ v)) (pos k *ℤ (pos 1 *ℤ x)), scale_sub k (pos g *ℤ v) (pos 1 *ℤ x), scale_scale g k v, ap (λ (z : ℤ). pos k *ℤ z) (scale_one x))
current_scale k (curve ss bs) x v = rw (scale_sub, ← ramp_scale k ss bs v, ← ramp_scale k ss bs (pos 0), *ℤ-zero)

-- what is the same on both sides may be taken off
less_rise : (a b c : ℤ) (t : ℕ) → Rise a t b → Rise (a -ℤ c) t (b -ℤ c)
less_rise a b c t h = omega (arith, sub_law a c, sub_law b c)

less_reach : (a b c : ℤ) (t : ℕ) → Reach a t b → Reach (a -ℤ c) t (b -ℤ c)
less_reach a b c t h = omega (arith, sub_law a c, sub_law b c)

-- the current rises by at least the conductance, and by at most the steepest slope, for each microvolt
pub current_rise : (k : ℕ) (l : Law) (x v u : ℤ) (t : ℕ) → Rise v t u → Rise (current k l x v) (conductance_of l * t) (current k l x u)
unfolding current conductance_of
current_rise k (conductance g) x v u t h = less_rise (pos g *ℤ v) (pos g *ℤ u) (pos k *ℤ x) (g * t) (omega (arith, mul-le-mul_left g h, scale_law g v, scale_law g u))
current_rise k (curve ss bs) x v u t h =
    let m = ramp_mono k ss bs v u (omega signs) in
    less_rise (ramp k ss bs v) (ramp k ss bs u) (ramp k ss bs (pos 0)) (0 * t) (omega signs)

pub current_steep : (k : ℕ) (l : Law) (x v u : ℤ) (t : ℕ) → Reach v t u → Reach (current k l x v) (steepest_of l * t) (current k l x u)
unfolding current steepest_of
current_steep k (conductance g) x v u t h = less_reach (pos g *ℤ v) (pos g *ℤ u) (pos k *ℤ x) (g * t) (omega (arith, mul-le-mul_left g h, scale_law g v, scale_law g u))
current_steep k (curve ss bs) x v u t h = less_reach (f v) (f u) (f (pos 0)) (S * t) (⊎_elim
    (λ (g : u ≤ℤ v). omega (signs, ramp_mono k ss bs u v g))
    (λ (g : v <ℤ u). omega (signs, ramp_steep k S ss bs v u (le_refl S) (omega signs), mul-le-mul_left S h, scale_law S v, scale_law S u, add_law (f u) (pos S *ℤ v), add_law (f v) (pos S *ℤ u)))
    (decide u v))
  where
    f : ℤ → ℤ
    f = ramp k ss bs

    S : ℕ
    S = greatest ss

-- ---- Compare

-- w1 is nowhere more than t above w2, and nowhere above it at a fixed node
pub record AtMost (N : Network) (t : ℕ) (w1 w2 : ℕ → ℤ) : Type 0 where
  pub every : (j : ℕ) → j ≤ N.nodes → Reach (w2 j) t (w1 j)
  pub fixed : (j : ℕ) → Fixed N j → Reach (w2 j) 0 (w1 j)

-- a law between this node a, which rises by r more than the other node b does
module _ (k : ℕ) (l : Law) (x : ℤ) (w1 w2 : ℕ → ℤ) (a b t r : ℕ) (this : Rise (w2 a) (r + t) (w1 a)) (other : Reach (w2 b) t (w1 b)) where
  from_here : Rise (current k l x (w2 a -ℤ w2 b)) (conductance_of l * r) (current k l x (w1 a -ℤ w1 b))
  from_here = current_rise k l x _ _ r (omega (arith, sub_law (w2 a) (w2 b), sub_law (w1 a) (w1 b)))

  from_there : Rise (neg_ℤ (current k l x (w2 b -ℤ w2 a))) (conductance_of l * r) (neg_ℤ (current k l x (w1 b -ℤ w1 a)))
  from_there =
      omega (
        arith,
        current_rise k l x (w1 b -ℤ w1 a) (w2 b -ℤ w2 a) r (omega (arith, sub_law (w2 b) (w2 a), sub_law (w1 b) (w1 a))),
        neg_law (current k l x (w2 b -ℤ w2 a)),
        neg_law (current k l x (w1 b -ℤ w1 a)),
      )

branch_compare : (k : ℕ) (N : Network) (b : Branch) (x : ℤ) (w1 w2 : ℕ → ℤ) (i t : ℕ) → AtMost N t w1 w2 → b.p ≤ N.nodes → b.q ≤ N.nodes → Rise (w2 i) t (w1 i) → Rise (leaving k b x w2 i) (held_by_branch N b i * t) (leaving k b x w1 i)
unfolding leaving held_by_branch
branch_compare k N b x w1 w2 i t h hp hq r = go (eqb i b.p) (eqb i b.q) refl refl
  where
    l : Law
    l = b.law

    g : ℕ
    g = conductance_of l

    c : (ℕ → ℤ) → ℤ
    c w = current k l x (w b.p -ℤ w b.q)

    at_p : i ≡ b.p → (f : Bool) → leb b.q N.driven ≡ f → Rise (c w2) (cond f g 0 * t) (c w1)
    at_p e true d = from_here k l x w1 w2 b.p b.q 0 t (omega (arith, rw e at r)) (h.fixed b.q (leb→le _ _ (rw d tt)))
    at_p e false d = omega (arith, from_here k l x w1 w2 b.p b.q t 0 (omega (arith, rw e at r)) (h.every b.q hq))

    at_q : i ≡ b.q → (f : Bool) → leb b.p N.driven ≡ f → Rise (neg_ℤ (c w2)) (cond f g 0 * t) (neg_ℤ (c w1))
    at_q e true d = from_there k l x w1 w2 b.q b.p 0 t (omega (arith, rw e at r)) (h.fixed b.p (leb→le _ _ (rw d tt)))
    at_q e false d = omega (arith, from_there k l x w1 w2 b.q b.p t 0 (omega (arith, rw e at r)) (h.every b.p hp))

    go : (s u : Bool) → eqb i b.p ≡ s → eqb i b.q ≡ u → Rise (pick s u (c w2) (neg_ℤ (c w2)) (pos 0)) (pick s u (cond (leb b.q N.driven) g 0) (cond (leb b.p N.driven) g 0) 0 * t) (pick s u (c w1) (neg_ℤ (c w1)) (pos 0))
    go true u e d = at_p (eqb→eq i b.p (rw e tt)) (leb b.q N.driven) refl
    go false true e d = at_q (eqb→eq i b.q (rw d tt)) (leb b.p N.driven) refl
    go false false e d = omega arith

sum_rise : (f1 f2 : ℕ → ℤ) (h : ℕ → ℕ) (t n : ℕ) → ((j : ℕ) → j < n → Rise (f2 j) (h j * t) (f1 j)) → Rise (sum f2 n) (total h n * t) (sum f1 n)
unfolding sum total
sum_rise f1 f2 h t zero each = omega arith
sum_rise f1 f2 h t (suc n) each =
    omega (arith, sum_rise f1 f2 h t n (λ (j : ℕ) (m : j < n). each j (omega arith)), each n (omega arith), add_law (sum f1 n) (f1 n), add_law (sum f2 n) (f2 n))

-- If w1 is at most t above w2, not above it at fixed nodes, and at least t above it at node i, then there its net current is higher by at least held i × t
pub compare : (k : ℕ) (N : Network) (x w1 w2 : ℕ → ℤ) (i t : ℕ) → Wired N → AtMost N t w1 w2 → Rise (w2 i) t (w1 i) → Rise (net k N x w2 i) (held N i * t) (net k N x w1 i)
unfolding net held
compare k N x w1 w2 i t wired h r =
    let f : (ℕ → ℤ) → ℕ → ℤ = λ w j. leaving k (N.branch j) (x j) w i in
    let n = N.count in
    omega (
      arith,
      sum_rise (f w1) (f w2) (λ j. held_by_branch N (N.branch j) i) t n (λ j m. branch_compare k N (N.branch j) (x j) w1 w2 i t h (wired.p_there j m) (wired.q_there j m) r),
      mul-le-mul_left N.leak r,
      scale_law N.leak (w1 i),
      scale_law N.leak (w2 i),
      add_law (pos N.leak *ℤ w1 i) (sum (f w1) n),
      add_law (pos N.leak *ℤ w2 i) (sum (f w2) n),
    )

-- With t = 0: where u is nowhere below w, and not above it at i, u has no higher net current there. So a node that may be lowered stays so while others sink.
pub others_rise : (k : ℕ) (N : Network) (x w u : ℕ → ℤ) (i : ℕ) → Wired N → Under N w u → u i ≤ℤ w i → net k N x u i ≤ℤ net k N x w i
others_rise k N x w u i wired under alike =
    omega (signs, compare k N x w u i 0 wired (record { every = λ j l. omega (signs, under j l); fixed = λ j f. omega (signs, under j (omega (arith, wired.driven_there))) }) (omega signs))

-- ---- Steep

branch_steep : (k : ℕ) (N : Network) (b : Branch) (x : ℤ) (w1 w2 : ℕ → ℤ) (i t : ℕ) → Under N w2 w1 → b.p ≤ N.nodes → b.q ≤ N.nodes → Reach (w2 i) t (w1 i) → Reach (leaving k b x w2 i) (steepest_by b i * t) (leaving k b x w1 i)
unfolding leaving steepest_by
branch_steep k N b x w1 w2 i t h hp hq r = go (eqb i b.p) (eqb i b.q) refl refl
  where
    l : Law
    l = b.law

    g : ℕ
    g = steepest_of l

    v1 : ℤ
    v1 = w1 b.p -ℤ w1 b.q

    v2 : ℤ
    v2 = w2 b.p -ℤ w2 b.q

    c : ℤ → ℤ
    c v = current k l x v

    go : (s u : Bool) → eqb i b.p ≡ s → eqb i b.q ≡ u → Reach (pick s u (c v2) (neg_ℤ (c v2)) (pos 0)) (pick s u g g 0 * t) (pick s u (c v1) (neg_ℤ (c v1)) (pos 0))
    go true u e d =
        let m = rw (eqb→eq i b.p (rw e tt)) at r in
        current_steep k l x v2 v1 t (omega (signs, h b.q hq, sub_law (w1 b.p) (w1 b.q), sub_law (w2 b.p) (w2 b.q)))
    go false true e d =
        let m = rw (eqb→eq i b.q (rw d tt)) at r in
        omega (
          arith,
          current_steep k l x v1 v2 t (omega (signs, h b.p hp, sub_law (w1 b.p) (w1 b.q), sub_law (w2 b.p) (w2 b.q))),
          neg_law (c v1),
          neg_law (c v2),
        )
    go false false e d = omega arith

sum_reach : (f1 f2 : ℕ → ℤ) (h : ℕ → ℕ) (t n : ℕ) → ((j : ℕ) → j < n → Reach (f2 j) (h j * t) (f1 j)) → Reach (sum f2 n) (total h n * t) (sum f1 n)
unfolding sum total
sum_reach f1 f2 h t zero each = omega arith
sum_reach f1 f2 h t (suc n) each =
    omega (arith, sum_reach f1 f2 h t n (λ (j : ℕ) (m : j < n). each j (omega arith)), each n (omega arith), add_law (sum f1 n) (f1 n), add_law (sum f2 n) (f2 n))

-- If w1 is nowhere below w2, and at most t above it at node i, then there its net current is higher by at most steepest i × t
pub steep : (k : ℕ) (N : Network) (x w1 w2 : ℕ → ℤ) (i t : ℕ) → Wired N → Under N w2 w1 → Reach (w2 i) t (w1 i) → Reach (net k N x w2 i) (steepest N i * t) (net k N x w1 i)
unfolding net steepest
steep k N x w1 w2 i t wired h r =
    let f : (ℕ → ℤ) → ℕ → ℤ = λ w j. leaving k (N.branch j) (x j) w i in
    let n = N.count in
    omega (
      arith,
      sum_reach (f w1) (f w2) (λ j. steepest_by (N.branch j) i) t n (λ j m. branch_steep k N (N.branch j) (x j) w1 w2 i t h (wired.p_there j m) (wired.q_there j m) r),
      mul-le-mul_left N.leak r,
      scale_law N.leak (w1 i),
      scale_law N.leak (w2 i),
      add_law (pos N.leak *ℤ w1 i) (sum (f w1) n),
      add_law (pos N.leak *ℤ w2 i) (sum (f w2) n),
    )

-- ---- Scale

branch_scale : (k : ℕ) (b : Branch) (x : ℤ) (w : ℕ → ℤ) (i : ℕ) → leaving k b x (λ j. pos k *ℤ w j) i ≡ pos k *ℤ leaving 1 b x w i
unfolding leaving
branch_scale k b x w i = go (eqb i b.p) (eqb i b.q)
  where
    v : ℤ
    v = w b.p -ℤ w b.q

    c : ℤ
    c = current 1 b.law x v

    s : ℤ
    s = current k b.law x (pos k *ℤ w b.p -ℤ pos k *ℤ w b.q)

    e : s ≡ pos k *ℤ c
    e = rw (← scale_sub k (w b.p) (w b.q)) (current_scale k b.law x v)

    go : (p q : Bool) → pick p q s (neg_ℤ s) (pos 0) ≡ pos k *ℤ pick p q c (neg_ℤ c) (pos 0)
    go true q = e
    go false true = ap neg_ℤ e ∙ sym (scale_neg k c)
    go false false = sym (*ℤ-zero (pos k))

sum_scale : (k : ℕ) (f g : ℕ → ℤ) (n : ℕ) → ((j : ℕ) → f j ≡ pos k *ℤ g j) → sum f n ≡ pos k *ℤ sum g n
unfolding sum
sum_scale k f g zero each = sym (*ℤ-zero (pos k))
sum_scale k f g (suc n) each = rw (each n, sum_scale k f g n each, scale_add k (sum g n) (g n))

-- k times the voltages, on the grid of k-ths, have k times the net current
pub scale : (k : ℕ) (N : Network) (x w : ℕ → ℤ) (i : ℕ) → net k N x (λ j. pos k *ℤ w j) i ≡ pos k *ℤ net 1 N x w i
unfolding net
scale k N x w i =
    let s = sum_scale k (λ j. leaving k (N.branch j) (x j) (λ m. pos k *ℤ w m) i) (λ j. leaving 1 (N.branch j) (x j) w i) N.count (λ j. branch_scale k (N.branch j) (x j) w i) in
    rw (scale_add k (pos N.leak *ℤ w i) (sum (λ j. leaving 1 (N.branch j) (x j) w i) N.count), scale_scale N.leak k (w i), s)
