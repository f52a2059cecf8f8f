-- The net currents of all nodes on the way from some voltages to others: the leaks first, then element by element. Assumes nothing.
use mathlib.Core.Path.{◌≡◌, refl, sym, ◌∙◌, ap}
use mathlib.Core.Bool.{Bool, true, false}
use mathlib.Core.List.{List}
use mathlib.Core.Logic.{⊎_elim}
use Prim.Native.Nat.{ℕ, ◌+◌, ◌*◌, ◌^◌, ◌≤◌, ◌<◌}
use native.Mathlib.Nat.{le_refl, mul-le-mul}
use native.Mathlib.Omega.{arith}
use lib.Dec.{eqb}
use lib.IntN.{ℤ, pos, nat_abs, ◌+ℤ◌, ◌-ℤ◌, ◌*ℤ◌, +ℤ_idr}
use lib.ListN.{length, set, length-set}
use lib.Seq.{get_or-set_same, get_or-set_other}
use borrow.Author.Tests.{eqb-true, eqb-false}
use Rattle.units.specs.Voltage.{voltage_limit}
use Rattle.units.proofs.Integers.{signs, decide_n, add_law, sub_law, pos_law}
use Rattle.units.proofs.Sizes.{abs_sub, abs_mul}
use Rattle.network.specs.Network.{Network, reading, leaving, net, branch_limit, leak_limit, breakpoint_limit, current_bound}
use Rattle.network.specs.Move.{more_by_branch, part_shifted}
use Rattle.network.proofs.Ranges.{difference_fits}
use Rattle.network.proofs.Moves.{more_at_p, more_at_q, more_nowhere, shifted_none, shifted_more, shifted_all, shifted_small}
use Rattle.circuit.specs.Board.{leak_on, nodes_on, count_on, p_on, q_on, branch_on, network_on, Evaluable, across_on, flow_on}
use Rattle.circuit.specs.Nets.{Netted}
use Rattle.circuit.specs.Shift.{Shifted}
use Rattle.circuit.proofs.BoardLaws.{few_nodes, p_node, q_node, flow_fits}

-- the leaks of the nodes below i have their new current, and nothing else has
pub record LeaksShifted (board : List ℕ) (stretches stored volts s : List ℤ) (i : ℕ) (nets : List ℤ) : Type 0 where
  pub long : length nets ≡ 16
  pub before : (m : ℕ) → m < i → reading nets m ≡ part_shifted (network_on board stretches) (reading stored) (reading volts) (reading s) 0 m
  pub later : (m : ℕ) → i ≤ m → m ≤ nodes_on board → reading nets m ≡ net 1 (network_on board stretches) (reading stored) (reading volts) m

module _ (board : List ℕ) (stretches stored volts s : List ℤ) (given : Evaluable board stretches stored volts) (there : Evaluable board stretches stored s) where
  abbrev N : Network
  N = network_on board stretches

  abbrev part : ℕ → ℕ → ℤ
  part n m = part_shifted N (reading stored) (reading volts) (reading s) n m

  abbrev old : ℕ → ℤ
  old m = net 1 N (reading stored) (reading volts) m

  part_fits : (n m : ℕ) → n ≤ count_on board → m ≤ nodes_on board → nat_abs (part n m) ≤ leak_limit * voltage_limit + branch_limit * current_bound
  part_fits = shifted_small N (reading stored) (reading volts) (reading s) given.ready.laid.limits given.kept given.ranged there.ranged

  -- ---- the leaks

  pub leaks_none : {nets : List ℤ} → Netted board stretches stored volts nets → LeaksShifted board stretches stored volts s 0 nets
  leaks_none netted = record { long = netted.long; before = λ m l. absurd (omega arith); later = λ m l h. netted.each m h }

  pub leak_way_fits : (i : ℕ) → i ≤ nodes_on board → leak_on board * nat_abs (reading s i -ℤ reading volts i) ≤ leak_limit * breakpoint_limit
  leak_way_fits i h = mul-le-mul given.ready.laid.limits.leak_small (difference_fits (reading s i) (reading volts i) (there.ranged i h) (given.ranged i h))

  pub leak_fits : (i : ℕ) → i ≤ nodes_on board → nat_abs (net 1 (network_on board stretches) (reading stored) (reading volts) i) + nat_abs (pos (leak_on board) *ℤ (reading s i -ℤ reading volts i)) < 2 ^ 63
  leak_fits i h =
      let n = old i in
      let l = pos (leak_on board) *ℤ (reading s i -ℤ reading volts i) in
      let e : n ≡ (n +ℤ l) -ℤ l = omega (signs, add_law n l, sub_law (n +ℤ l) l) in
      omega (
        arith,
        ap nat_abs e,
        abs_sub (n +ℤ l) l,
        abs_mul (pos (leak_on board)) (reading s i -ℤ reading volts i),
        leak_way_fits i h,
        ap nat_abs (shifted_none N (reading stored) (reading volts) (reading s) i),
        part_fits 0 i (omega arith) h,
      )

  pub leaks_more : {i : ℕ} {nets : List ℤ} {y : ℤ} → LeaksShifted board stretches stored volts s i nets → i ≤ nodes_on board → y ≡ reading nets i +ℤ pos (leak_on board) *ℤ (reading s i -ℤ reading volts i) → LeaksShifted board stretches stored volts s (i + 1) (set nets i y)
  leaks_more {i} {nets} {y} h l is =
      let room : i < length nets = omega (arith, h.long, few_nodes board stretches given.ready.laid) in
      record {
        long = length-set nets i y ∙ h.long;
        before = λ m k. ⊎_elim
            (λ (a : i ≤ m). let e : m ≡ i = omega arith in rw e (get_or-set_same nets i y (pos 0) room ∙ is ∙ ap (λ (z : ℤ). z +ℤ pos (leak_on board) *ℤ (reading s i -ℤ reading volts i)) (h.later i (le_refl i) l) ∙ sym (shifted_none N (reading stored) (reading volts) (reading s) i)))
            (λ (a : m < i). get_or-set_other nets i m y (pos 0) (λ e. omega arith) ∙ h.before m a) (decide_n i m);
        later = λ m k t. get_or-set_other nets i m y (pos 0) (λ e. omega arith) ∙ h.later m (omega arith) t;
      }

  pub leaks_all : {i : ℕ} {nets : List ℤ} → LeaksShifted board stretches stored volts s i nets → nodes_on board < i → Shifted board stretches stored volts s 0 nets
  leaks_all h past = record { long = h.long; each = λ m l. h.before m (omega arith) }

  -- ---- element j

  module _ {j : ℕ} {nets : List ℤ} (h : Shifted board stretches stored volts s j nets) (here : j < count_on board) where
    abbrev more : ℤ
    more = flow_on board stretches stored s j -ℤ flow_on board stretches stored volts j

    p_there : p_on board j ≤ nodes_on board
    p_there = p_node board stretches given.ready.laid j here

    q_there : q_on board j ≤ nodes_on board
    q_there = q_node board stretches given.ready.laid j here

    pub p_short : p_on board j < 16
    p_short = omega (arith, p_there, few_nodes board stretches given.ready.laid)

    pub q_short : q_on board j < 16
    q_short = omega (arith, q_there, few_nodes board stretches given.ready.laid)

    apart : p_on board j ≡ q_on board j → ⊥
    unfolding branch_on
    apart = given.ready.laid.limits.two_ended j here

    more_small : nat_abs (flow_on board stretches stored s j -ℤ flow_on board stretches stored volts j) ≤ 2 * current_bound
    more_small = omega (arith, abs_sub (flow_on board stretches stored s j) (flow_on board stretches stored volts j), flow_fits board stretches stored s there j here, flow_fits board stretches stored volts given j here)

    -- each end with what it gains or loses fits
    end_fits : (m : ℕ) → m ≤ nodes_on board → nat_abs (reading nets m) + nat_abs (flow_on board stretches stored s j -ℤ flow_on board stretches stored volts j) < 2 ^ 63
    end_fits m l = rw (h.each m l) (omega (arith, part_fits j m (omega arith) l, more_small))

    pub p_fits : nat_abs (reading nets (p_on board j)) + nat_abs (flow_on board stretches stored s j -ℤ flow_on board stretches stored volts j) < 2 ^ 63
    p_fits = end_fits (p_on board j) p_there

    -- an element whose voltage is what it was
    pub element_same : across_on board volts j ≡ across_on board s j → Shifted board stretches stored volts s (j + 1) nets
    unfolding leaving branch_on
    element_same e = record { long = h.long; each = λ m l. h.each m l ∙ sym (shifted_more N (reading stored) (reading volts) (reading s) j m ∙ ap (λ (z : ℤ). part j m +ℤ z) (none m) ∙ +ℤ_idr (part j m)) }
      where
        none : (m : ℕ) → more_by_branch (network_on board stretches) (reading stored) (reading volts) (reading s) m j ≡ pos 0
        none m = let c = leaving 1 (branch_on board stretches j) (reading stored j) (reading volts) m in rw (← e) (omega (signs, sub_law c c, pos_law 0))

    module _ (y z : ℤ) (y-is : y ≡ reading nets (p_on board j) +ℤ (flow_on board stretches stored s j -ℤ flow_on board stretches stored volts j)) where
      q_kept : reading (set nets (p_on board j) y) (q_on board j) ≡ reading nets (q_on board j)
      q_kept = get_or-set_other nets (p_on board j) (q_on board j) y (pos 0) (λ e. apart (sym e))

      pub q_fits : nat_abs (reading (set nets (p_on board j) y) (q_on board j)) + nat_abs (flow_on board stretches stored s j -ℤ flow_on board stretches stored volts j) < 2 ^ 63
      q_fits = rw q_kept (end_fits (q_on board j) q_there)

      pub element_more : z ≡ reading (set nets (p_on board j) y) (q_on board j) -ℤ (flow_on board stretches stored s j -ℤ flow_on board stretches stored volts j) → Shifted board stretches stored volts s (j + 1) (set (set nets (p_on board j) y) (q_on board j) z)
      unfolding branch_on
      element_more z-is = record { long = length-set (set nets (p_on board j) y) (q_on board j) z ∙ length-set nets (p_on board j) y ∙ h.long; each = λ m l. each m l (eqb m (q_on board j)) refl (eqb m (p_on board j)) refl }
        where
          first : List ℤ
          first = set nets (p_on board j) y

          next : (m : ℕ) → part (j + 1) m ≡ part j m +ℤ more_by_branch N (reading stored) (reading volts) (reading s) m j
          next m = shifted_more N (reading stored) (reading volts) (reading s) j m

          each : (m : ℕ) → m ≤ nodes_on board → (a : Bool) → eqb m (q_on board j) ≡ a → (b : Bool) → eqb m (p_on board j) ≡ b → reading (set first (q_on board j) z) m ≡ part (j + 1) m
          each m l true e b f =
              rw (eqb-true m (q_on board j) e)
              (get_or-set_same first (q_on board j) z (pos 0) (omega (arith, q_short, length-set nets (p_on board j) y, h.long)) ∙ z-is ∙ ap (λ (u : ℤ). u -ℤ more) (q_kept ∙ h.each (q_on board j) q_there) ∙ sym (next (q_on board j) ∙ ap (λ (u : ℤ). part j (q_on board j) +ℤ u) (more_at_q N (reading stored) (reading volts) (reading s) j apart)))
          each m l false e true f =
              rw (eqb-true m (p_on board j) f)
              (get_or-set_other first (q_on board j) (p_on board j) z (pos 0) apart ∙ get_or-set_same nets (p_on board j) y (pos 0) (omega (arith, p_short, h.long)) ∙ y-is ∙ ap (λ (u : ℤ). u +ℤ more) (h.each (p_on board j) p_there) ∙ sym (next (p_on board j) ∙ ap (λ (u : ℤ). part j (p_on board j) +ℤ u) (more_at_p N (reading stored) (reading volts) (reading s) j)))
          each m l false e false f =
              get_or-set_other first (q_on board j) m z (pos 0) (eqb-false m (q_on board j) e) ∙ get_or-set_other nets (p_on board j) m y (pos 0) (eqb-false m (p_on board j) f) ∙ h.each m l
              ∙ sym (next m ∙ ap (λ (u : ℤ). part j m +ℤ u) (more_nowhere N (reading stored) (reading volts) (reading s) j m (eqb-false m (p_on board j) f) (eqb-false m (q_on board j) e)) ∙ +ℤ_idr (part j m))

  pub shifted_netted : {nets : List ℤ} → Shifted board stretches stored volts s (count_on board) nets → Netted board stretches stored s nets
  shifted_netted h = record { long = h.long; each = λ m l. h.each m l ∙ shifted_all N (reading stored) (reading volts) (reading s) m }
