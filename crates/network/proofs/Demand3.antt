-- Demand 3: how far an accepted sample's voltages are from any that nearly balance, on any grid. Assumes nothing.
use mathlib.Core.Path.{◌≡◌, refl, ◌∙◌, ap}
use mathlib.Core.Bool.{cond}
use mathlib.Core.Logic.{◌⊎◌, inl, inr, ⊎_elim}
use Prim.Native.Nat.{ℕ, zero, suc, ◌+◌, ◌*◌, ◌-◌, ◌≤◌, ◌<◌}
use native.Mathlib.Omega.{arith}
use native.Mathlib.Nat.{le_trans, mul-pos, mul-le-mul, mul-le-mul_left}
use lib.Dec.{eqb}
use lib.IntN.{*ℤ-zero, ℤ, pos, nat_abs, ◌+ℤ◌, ◌-ℤ◌, ◌*ℤ◌}
use lib.Signed.{◌≤ℤ◌}
use Rattle.units.specs.Voltage.{voltage_limit}
use Rattle.units.specs.Integer.{up, dn}
use Rattle.units.proofs.Integers.{signs, eq_out, add_law, sub_law, pos_law, abs_law, scale_law, scale_one, Rise, Reach, decide_n}
use Rattle.units.proofs.Sizes.{abs_within}
use Rattle.network.specs.Network.{Network, Fixed, Free, net, held, steepest, Wired, InLimits}
use Rattle.network.specs.Sample.{Drives, Legal, Low, Under, Answer, BelowTop, accepted, Gives}
use Rattle.network.specs.Bound.{Balances, Enough, Close}
use Rattle.network.proofs.Compare.{steep, scale}
use Rattle.network.proofs.Hold.{hold, same_fixed, leak_held, leak_steepest}
use Rattle.network.proofs.Lowering.{one_node}
use Rattle.network.proofs.Certify.{climb}

-- An answer below the top misses zero by less than its steepest sum: else it would still be low with node i one microvolt higher
misses_less : (N : Network) (x d v : ℕ → ℤ) (i : ℕ) → Wired N → Answer N x d v → BelowTop N v → Free N i → dn (net 1 N x v i) < up (net 1 N x v i) + steepest N i
misses_less N x d v i wired a below free = ⊎_elim
    (λ (h : up (net 1 N x v i) + steepest N i ≤ dn (net 1 N x v i)). absurd (clash h))
    (λ (h : dn (net 1 N x v i) < up (net 1 N x v i) + steepest N i). h) (decide_n _ _)
  where
    u : ℕ → ℤ
    u j = cond (eqb j i) (v j +ℤ pos 1) (v j)

    u_law : (j : ℕ) → ((j ≡ i) × (u j ≡ v j +ℤ pos 1)) ⊎ ((j ≡ i → ⊥) × (u j ≡ v j))
    u_law j = one_node i j (v j +ℤ pos 1) (v j)

    here : u i ≡ v i +ℤ pos 1
    here = ⊎_elim (λ (e : (i ≡ i) × (u i ≡ v i +ℤ pos 1)). e.1) (λ (e : (i ≡ i → ⊥) × (u i ≡ v i)). absurd (e.0 refl)) (u_law i)

    away : (j : ℕ) → (j ≡ i → ⊥) → u j ≡ v j
    away j n = ⊎_elim (λ (e : (j ≡ i) × (u j ≡ v j +ℤ pos 1)). absurd (n e.0)) (λ (e : (j ≡ i → ⊥) × (u j ≡ v j)). e.1) (u_law j)

    over : Under N v u
    over j l = ⊎_elim
        (λ (e : (j ≡ i) × (u j ≡ v j +ℤ pos 1)). omega (signs, add_law (v j) (pos 1), pos_law 1))
        (λ (e : (j ≡ i → ⊥) × (u j ≡ v j)). omega signs) (u_law j)

    range : (j : ℕ) → Free N j → u j ≤ℤ pos voltage_limit
    range j f = ⊎_elim
        (λ (e : (j ≡ i) × (u j ≡ v j +ℤ pos 1)). omega (signs, below j f, add_law (v j) (pos 1), pos_law 1))
        (λ (e : (j ≡ i → ⊥) × (u j ≡ v j)). omega (signs, below j f)) (u_law j)

    clash : up (net 1 N x v i) + steepest N i ≤ dn (net 1 N x v i) → ⊥
    clash h = omega (signs, here, add_law (v i) (pos 1), pos_law 1, a.highest u raise.0 raise.1 i free.1)
      where
        high : net 1 N x u i ≤ℤ pos 0
        high = omega (signs, pos_law 0, steep 1 N x u v i 1 wired over (omega (signs, here, add_law (v i) (pos 1), pos_law 1)))

        raise : Legal N d u × Low N x u
        raise = climb N x d v wired a.legal a.low u (λ j f. away j (omega arith)) over range (λ j f. ⊎_elim
            (λ (e : (j ≡ i) × (u j ≡ v j +ℤ pos 1)). inr (rw e.0 high))
            (λ (e : (j ≡ i → ⊥) × (u j ≡ v j)). inl (omega signs)) (u_law j))

-- some bound is enough only if it isn't zero
not_zero : (B h e s : ℕ) → 1 ≤ s → s + e ≤ B * h → 0 < B
not_zero zero h e s a b = omega arith
not_zero (suc B) h e s a b = omega arith

module _ (N : Network) (x d v : ℕ → ℤ) (wired : Wired N) (leaks : 1 ≤ N.leak) (a : Answer N x d v) (below : BelowTop N v) (k e : ℕ) (w : ℕ → ℤ) (grid : 1 ≤ k) (b : Balances k e N x d w) where
  -- our voltages on the grid
  ours : ℕ → ℤ
  ours j = pos k *ℤ v j

  ours_net : (i : ℕ) → net k N x ours i ≡ pos k *ℤ net 1 N x v i
  unfolding ours
  ours_net i = scale k N x v i

  ours_drives : Drives k N d ours
  unfolding ours
  ours_drives = record { ground = ap (λ (z : ℤ). pos k *ℤ z) a.legal.drives.ground ∙ *ℤ-zero (pos k); driven = λ j l. ap (λ (z : ℤ). pos k *ℤ z) (a.legal.drives.driven j l ∙ scale_one (d j)) }

  ours_fixed : (j : ℕ) → Fixed N j → ours j ≡ w j
  ours_fixed = same_fixed ours w ours_drives b.drives

  -- what is known at a free node, times k: our net current is not above zero, and misses it by less than the steepest sum
  ours_low : (i : ℕ) → Free N i → k * up (net 1 N x v i) ≤ k * dn (net 1 N x v i)
  ours_low i f = mul-le-mul_left k (omega (signs, pos_law 0, a.low i f))

  ours_near : (i : ℕ) → Free N i → k * suc (dn (net 1 N x v i)) ≤ k * (up (net 1 N x v i) + steepest N i)
  ours_near i f = mul-le-mul_left k (misses_less N x d v i wired a below f)

  ours_not_higher : e ≡ 0 → (i : ℕ) → Free N i → (pos k *ℤ v i) ≤ℤ w i
  unfolding ours
  ours_not_higher z i free = omega (signs, hold k N x ours w 0 wired (λ j f. omega (arith, eq_out (ours_fixed j f))) no_more i free.1)
    where
      no_more : (i m : ℕ) → Free N i → 0 ≤ m → Rise (net k N x w i) (held N i * suc m) (net k N x ours i) → ⊥
      no_more i m f l r = omega (signs, ours_net i, scale_law k (net 1 N x v i), ours_low i f, b.near i f, abs_law (net k N x w i), leak_held N i, ap (λ (y : ℕ). k * y) z)

  module _ (B : ℕ) (enough : Enough N e B) where
    -- k B times what is held is at least k times the steepest sum and e
    room : (i m : ℕ) → Free N i → k * B ≤ suc m → k * steepest N i + k * e ≤ held N i * suc m
    room i m f l = omega (arith, mul-le-mul_left k (enough i f), mul-le-mul_left (held N i) l)

    some_room : (i : ℕ) → Free N i → 1 ≤ k * steepest N i
    some_room i f = omega (arith, mul-le-mul grid (le_trans leaks (leak_steepest N i)))

    not_far_above : (i : ℕ) → Free N i → Reach (w i) (k * B - 1) (ours i)
    not_far_above i free = hold k N x ours w (k * B - 1) wired (λ j f. omega (arith, eq_out (ours_fixed j f))) no_more i free.1
      where
        no_more : (i m : ℕ) → Free N i → k * B - 1 ≤ m → Rise (net k N x w i) (held N i * suc m) (net k N x ours i) → ⊥
        no_more i m f l r = omega (signs, ours_net i, scale_law k (net 1 N x v i), ours_low i f, b.near i f, abs_law (net k N x w i), room i m f (omega arith), some_room i f)

    not_far_below : (i : ℕ) → Free N i → Reach (ours i) (k * B - 1) (w i)
    not_far_below i free = hold k N x w ours (k * B - 1) wired (λ j f. omega (arith, eq_out (ours_fixed j f))) no_more i free.1
      where
        no_more : (i m : ℕ) → Free N i → k * B - 1 ≤ m → Rise (net k N x ours i) (held N i * suc m) (net k N x w i) → ⊥
        no_more i m f l r = omega (signs, ours_net i, scale_law k (net 1 N x v i), ours_near i f, b.near i f, abs_law (net k N x w i), room i m f (omega arith), some_room i f)

    within_bound : (i : ℕ) → Free N i → nat_abs (w i -ℤ pos k *ℤ v i) < k * B
    unfolding ours
    within_bound i free =
        let z = sub_law (w i) (pos k *ℤ v i) in
        omega (
          arith,
          abs_within (w i -ℤ pos k *ℤ v i) (k * B - 1) (omega (arith, not_far_below i free)) (omega (arith, not_far_above i free)),
          mul-pos grid (not_zero B (held N i) e (steepest N i) (le_trans leaks (leak_steepest N i)) (enough i free)),
        )

-- Demand 3, clause by clause:
--   every circuit within document 01's limits                         InLimits N
--   every accepted sample                                             Gives N x d (accepted v y): stored currents x, drives d, our voltages v
--   every grid of k-ths, k at least 1                                 1 ≤ k; breakpoints, drives and stored currents times k are in `net k` and `Drives k`
--   every e, and every assignment on the grid with the same drives
--   and stored currents whose net current misses zero by at most e    Balances k e N x d w (e compared as k times e)
--   every B with the steepest sum plus e at most B times the held
--   conductance at each free node                                     Enough N e B, in Close.bound
--   no free node differs by B microvolts or more                      Close .bound: |w - k v| < k B, so neither is far above the other
--   and with e zero ours is never the higher                          Close .never-higher
pub demand_3 : (N : Network) → InLimits N → (x d v y : ℕ → ℤ) → Gives N x d (accepted v y) → (k : ℕ) → 1 ≤ k → (e : ℕ) (w : ℕ → ℤ) → Balances k e N x d w → Close N v k e w
demand_3 N limits x d v y sample k grid e w b = record {
  bound = within_bound N x d v limits.wired limits.leaks sample.answer sample.below k e w grid b;
  never_higher = ours_not_higher N x d v limits.wired limits.leaks sample.answer sample.below k e w grid b;
}
