-- Step over a board: how far it goes fits, and what it says. Assumes nothing.
use mathlib.Core.Path.{◌≡◌, sym, subst}
use mathlib.Core.List.{List}
use mathlib.Core.Logic.{⊎_elim}
use Prim.Native.Nat.{ℕ, suc, ◌+◌, ◌*◌, ◌^◌, ◌≤◌, ◌<◌}
use native.Mathlib.Nat.{le_refl, mul-le-mul, mul-le-mul_left, mul-suc}
use native.Mathlib.Omega.{arith}
use lib.IntN.{ℤ, pos, nat_abs, ◌-ℤ◌}
use lib.ListN.{length, set}
use lib.Signed.{◌≤ℤ◌, ◌<ℤ◌}
use mir.Syntax.{w64}
use mir.Val.{to_z, of_z}
use mir.Facts.{to_z-of_z}
use Rattle.units.specs.Integer.{rounded_up}
use Rattle.units.specs.Voltage.{voltage_limit, InRange, bottom}
use Rattle.units.proofs.Integers.{signs, sub_law, neg_law, pos_law, abs_law, decide, decide_n}
use Rattle.units.proofs.Sizes.{rounded_up_law, abs_within, fits_signed}
use Rattle.network.specs.Network.{Network, Free, reading, net, steepest, branch_limit, current_bound}
use Rattle.network.specs.Sample.{Under}
use Rattle.network.proofs.Ranges.{partial_sum_small, steepest_fits}
use Rattle.network.proofs.Hold.{leak_steepest}
use Rattle.network.proofs.Measures.{height_falls_list}
use Rattle.network.proofs.Lowering.{lowered_under, store_lowers}
use Rattle.network.proofs.Settle.{step_of, ceil_settling_list, ceil_none_list}
use Rattle.circuit.specs.Board.{count_on, network_on, steepest_on, Evaluable}
use Rattle.solve.specs.Search.{Searching, net_bound, Lowered, Nowhere}
use Rattle.solve.proofs.PlaceLaws.{short_of}

one_more : (n s : ℕ) → 0 < s → n + s ≤ s * suc n
one_more n s p =
    let m : 1 * n ≤ s * n = mul-le-mul p (le_refl n) in
    let e : s * suc n ≡ s * n + s = mul-suc s n in
    omega arith

-- a quotient rounded up is not larger than what was divided
pub rounded_up_small : (n s : ℕ) → 0 < s → rounded_up n s ≤ n
rounded_up_small n s p = ⊎_elim
    (λ (h : rounded_up n s ≤ n). h)
    (λ (h : n < rounded_up n s). absurd (omega (arith, (rounded_up_law n s p).1, mul-le-mul_left s h, one_more n s p)))
    (decide_n (rounded_up n s) n)

module _ {board : List ℕ} {stretches stored l nets : List ℤ} (search : Searching board stretches stored l nets) (i : ℕ) (free : Free (network_on board stretches) i) where
  abbrev N : Network
  N = network_on board stretches

  abbrev given : Evaluable board stretches stored l
  given = search.evaluable

  pub net_small : nat_abs (net 1 (network_on board stretches) (reading stored) (reading l) i) ≤ net_bound
  unfolding net
  net_small =
      let limits = given.ready.laid.limits in
      let m : count_on board * current_bound ≤ branch_limit * current_bound = mul-le-mul limits.few_branches (le_refl current_bound) in
      omega (arith, partial_sum_small N limits (reading stored) (reading l) given.kept given.ranged i (count_on board) (λ (j : ℕ). j) free.1 (λ j l. l))

  -- the code's net current of the node is its own
  pub net_is : to_z w64 (of_z w64 (reading nets i)) ≡ net 1 (network_on board stretches) (reading stored) (reading l) i
  net_is = rw (search.netted.each i free.1) (to_z-of_z (fits_signed (net 1 N (reading stored) (reading l) i) (omega (arith, net_small))))

  pub steep_some : 0 < steepest_on board i
  steep_some = rw (given.ready.steepest_sums i free) (omega (arith, leak_steepest N i, given.ready.laid.limits.leaks))

  pub steep_fits : steepest_on board i < 2 ^ 36
  steep_fits = rw (given.ready.steepest_sums i free) (steepest_fits N given.ready.laid.limits i)

  -- the net current is above zero, and v is what the step leads to
  module _ (high : pos 0 <ℤ net 1 (network_on board stretches) (reading stored) (reading l) i) {v : ℤ} (is : v ≡ reading l i -ℤ pos (rounded_up (nat_abs (net 1 (network_on board stretches) (reading stored) (reading l) i)) (steepest_on board i))) where
    abbrev t : ℕ
    t = step_of N (reading stored) (reading l) i

    short : i < length l
    short = short_of search free.1

    there : v ≡ reading l i -ℤ pos (step_of N (reading stored) (reading l) i)
    there = rw (← given.ready.steepest_sums i free) is

    some : 0 < step_of N (reading stored) (reading l) i
    some =
        let f = net 1 N (reading stored) (reading l) i in
        let S = steepest N i in
        ⊎_elim
        (λ (h : 1 ≤ rounded_up (nat_abs f) S). h)
        (λ (h : rounded_up (nat_abs f) S < 1). absurd
        (let z : rounded_up (nat_abs f) S ≡ 0 = omega arith in
        omega (signs, rw z at (rounded_up_law (nat_abs f) S (omega (arith, leak_steepest N i, given.ready.laid.limits.leaks))).0, abs_law f, pos_law 0)))
        (decide_n 1 (rounded_up (nat_abs f) S))

    under : Under N (reading (set l i (reading l i -ℤ pos (step_of N (reading stored) (reading l) i)))) (reading l)
    under = subst (λ (u : ℕ → ℤ). Under N u (reading l)) (sym (store_lowers l i t short)) (λ j here. lowered_under (reading l) i t j)

    module _ (inside : InRange v) where
      over : bottom ≤ℤ (reading l i -ℤ pos (step_of N (reading stored) (reading l) i))
      over = rw (← there) (omega (signs, abs_law v, neg_law (pos voltage_limit), pos_law voltage_limit))

      pub step_lowered : Lowered board stretches stored l (set l i v)
      step_lowered = record {
        down = record {
          under = rw there under;
          settling = λ d z s. rw there (ceil_settling_list N (reading stored) d z l i given.ready.laid.limits.wired s short free given.ready.laid.limits.leaks high over);
        };
        falls = rw there (height_falls_list N l i t short free.1 some (omega (signs, over, some, sub_law (reading l i) (pos t), pos_law t)));
      }

    pub step_out : (InRange v → ⊥) → Nowhere board stretches stored l
    step_out out d z s =
        ceil_none_list N (reading stored) d z l i given.ready.laid.limits.wired s short free given.ready.laid.limits.leaks high
        (⊎_elim
        (λ (h : bottom ≤ℤ v). absurd (out (abs_within v voltage_limit (omega (signs, there, sub_law (reading l i) (pos t), pos_law t, abs_law (reading l i), given.ranged i free.1)) (omega (signs, neg_law (pos voltage_limit), pos_law voltage_limit)))))
        (λ (h : v <ℤ bottom). rw there at h)
        (decide bottom v))
