-- A visit: where it starts, what the nodes so far say together, and what its end says. Assumes nothing.
use mathlib.Core.Path.{◌≡◌, refl, sym, ◌∙◌, subst}
use mathlib.Core.Bool.{Bool, true, false, false≢true, cond}
use mathlib.Core.List.{List}
use mathlib.Core.Logic.{◌⊎◌, inl, inr, ⊎_elim}
use Prim.Native.Nat.{ℕ, zero, suc, ◌+◌, ◌≤◌, ◌<◌}
use native.Mathlib.Omega.{arith}
use native.Mathlib.Nat.{le_refl}
use lib.IntN.{ℤ, pos, ◌+ℤ◌, ◌-ℤ◌}
use lib.ListN.{length, set}
use lib.Signed.{◌≤ℤ◌, ◌<ℤ◌}
use Rattle.units.specs.Voltage.{voltage_limit, below_top}
use Rattle.units.proofs.Integers.{signs, add_law, sub_law, neg_law, pos_law, abs_law, decide_n, lt_z_true, lt_z_false}
use Rattle.network.specs.Network.{Network, Wired, Free, reading, net}
use Rattle.network.specs.Sample.{Legal, Low, Under, Answer}
use Rattle.network.specs.Search.{lowered, raised, Visit, Through, height}
use Rattle.network.proofs.Measures.{height_falls_list, depth_falls}
use Rattle.network.proofs.Nodes.{by_node}
use Rattle.network.proofs.Compare.{others_rise}
use Rattle.network.proofs.Lowering.{lowered_law, lowered_here, lowered_under}
use Rattle.network.proofs.Certify.{raised_free, raised_top, raised_fixed, visit_start, visit_more, visit_more_list, visit_law, visit_over, stuck, certify}
use Rattle.circuit.specs.Board.{nodes_on, driven_on, network_on, Ranged}
use Rattle.solve.specs.Search.{Searching, LowAt}
use Rattle.solve.specs.Climb.{Risen}
use Rattle.solve.specs.Visit.{one_up, Raised, Visiting, Waiting, Stuck, AllGo}
use Rattle.solve.proofs.PlaceLaws.{set_cases, short_of}

-- ---- where it starts

-- one more, or not
one_up_law : (v : ℤ) → ((one_up v ≡ v +ℤ pos 1) × (v <ℤ pos voltage_limit)) ⊎ ((one_up v ≡ v) × (pos voltage_limit ≤ℤ v))
one_up_law v = go (below_top v) refl
  where
    go : (b : Bool) → below_top v ≡ b → ((cond b (v +ℤ pos 1) v ≡ v +ℤ pos 1) × (v <ℤ pos voltage_limit)) ⊎ ((cond b (v +ℤ pos 1) v ≡ v) × (pos voltage_limit ≤ℤ v))
    go true e = inl (refl, lt_z_true _ _ e)
    go false e = inr (refl, lt_z_false _ _ e)

module _ {board : List ℕ} {volts s : List ℤ} where
  -- it is the definition's
  raised_is : (stretches : List ℤ) → Raised board volts s → (j : ℕ) → j ≤ nodes_on board → reading s j ≡ raised (network_on board stretches) (reading volts) j
  raised_is stretches h =
      let N = network_on board stretches in
      by_node N (λ (j : ℕ). reading s j ≡ raised N (reading volts) j)
      (λ j f. h.same j f ∙ sym (raised_fixed N (reading volts) j f))
      (λ j f. h.free j f.0 (omega (arith, f.1)) ∙ ⊎_elim
      (λ (a : (one_up (reading volts j) ≡ reading volts j +ℤ pos 1) × (reading volts j <ℤ pos voltage_limit)). a.0 ∙ sym (raised_free N (reading volts) j f a.1))
      (λ (a : (one_up (reading volts j) ≡ reading volts j) × (pos voltage_limit ≤ℤ reading volts j)). a.0 ∙ sym (raised_top N (reading volts) j a.1))
      (one_up_law (reading volts j)))

  pub visiting_start : {stretches stored w : List ℤ} → Ranged board volts → Searching board stretches stored s w → Raised board volts s → Visiting board stretches stored volts s w
  visiting_start {stretches} {stored} ranged searching h = record {
    searching = searching;
    ranged = ranged;
    visit = visit_start (network_on board stretches) (reading stored) (reading volts) (reading s) (raised_is stretches h);
  }

-- ---- a lap that has come down to node i

pub record LapTo (board : List ℕ) (stretches stored volts before after : List ℤ) (went wait : Bool) (i : ℕ) : Type 0 where
  pub ranged : Ranged board volts
  pub visit : Visit (network_on board stretches) (reading stored) (reading volts) (reading after)
  pub under : height (network_on board stretches) (reading after) ≤ height (network_on board stretches) (reading before)
  pub still : went ≡ false → (j : ℕ) → Free (network_on board stretches) j → i ≤ j → reading volts j <ℤ reading after j → LowAt board stretches stored after j
  pub falls : went ≡ true → height (network_on board stretches) (reading after) < height (network_on board stretches) (reading before)
  pub back : wait ≡ false → (j : ℕ) → Free (network_on board stretches) j → i ≤ j → reading after j ≡ reading volts j
  pub waiting : wait ≡ true → (j : ℕ) × Free (network_on board stretches) j × (i ≤ j) × (reading volts j <ℤ reading after j)

module _ {board : List ℕ} {stretches stored volts before : List ℤ} where
  module _ {after : List ℤ} {went wait : Bool} {i : ℕ} (h : LapTo board stretches stored volts before after went wait i) where
    abbrev N : Network
    N = network_on board stretches

    -- node n is the next
    module _ {n : ℕ} (next_is : i ≡ n + 1) (above : driven_on board < n) (there : n ≤ nodes_on board) where
      -- node n, or one that was visited
      since : (j : ℕ) → n ≤ j → (j ≡ n) ⊎ (i ≤ j)
      since j l = ⊎_elim (λ (m : i ≤ j). inr m) (λ (m : j < i). inl (omega arith)) (decide_n i j)

      -- a node stands where it did, or one above
      over : reading volts n ≤ℤ reading after n
      over = visit_over N (reading stored) (reading volts) (reading after) h.visit n there

      pub lap_back : {next : List ℤ} → (next ≡ after) × (reading after n ≤ℤ reading volts n) → LapTo board stretches stored volts before next went wait n
      lap_back k = subst (λ (l : List ℤ). LapTo board stretches stored volts before l went wait n) (sym k.0) (record {
        ranged = h.ranged;
        visit = h.visit;
        under = h.under;
        still = λ e j f l. ⊎_elim (λ (q : j ≡ n). rw q (λ w. absurd (omega (signs, k.1)))) (λ (q : i ≤ j). h.still e j f q) (since j l);
        falls = h.falls;
        back = λ e j f l. ⊎_elim (λ (q : j ≡ n). rw q (omega (signs, k.1, over))) (λ (q : i ≤ j). h.back e j f q) (since j l);
        waiting = λ m. let w = h.waiting m in (w.0, w.1, omega (arith, w.2), w.3);
      })

      pub lap_waits : {next : List ℤ} → (next ≡ after) × (reading volts n <ℤ reading after n) × LowAt board stretches stored after n → LapTo board stretches stored volts before next went true n
      lap_waits k = subst (λ (l : List ℤ). LapTo board stretches stored volts before l went true n) (sym k.0) (record {
        ranged = h.ranged;
        visit = h.visit;
        under = h.under;
        still = λ e j f l. ⊎_elim (λ (q : j ≡ n). rw q (λ w. k.2)) (λ (q : i ≤ j). h.still e j f q) (since j l);
        falls = h.falls;
        back = λ e. absurd (false≢true (sym e));
        waiting = λ m. (n, (above, there), le_refl n, k.1);
      })

      module _ {w : List ℤ} (given : Searching board stretches stored after w) where
        short : n < length after
        short = short_of given there

        module _ (waits : reading volts n <ℤ reading after n) (high : pos 0 <ℤ net 1 (network_on board stretches) (reading stored) (reading after) n) where
          -- a waiting node stands one above
          one : reading after n -ℤ pos 1 ≡ reading volts n
          one = ⊎_elim
              (λ (e : reading after n ≡ reading volts n). absurd (omega signs))
              (λ (e : (reading after n ≡ reading volts n +ℤ pos 1) × Free N n × (reading volts n <ℤ pos voltage_limit)). omega (signs, e.0, add_law (reading volts n) (pos 1), sub_law (reading after n) (pos 1)))
              (visit_law N (reading stored) (reading volts) (reading after) h.visit n there)

          lower : height (network_on board stretches) (reading (set after n (reading volts n))) < height (network_on board stretches) (reading after)
          lower = rw one at (height_falls_list N after n 1 short there (omega arith) (omega (signs, waits, h.ranged n there, abs_law (reading volts n), neg_law (pos voltage_limit), pos_law voltage_limit)))

          gone : LapTo board stretches stored volts before (set after n (reading volts n)) true wait n
          gone = record {
            ranged = h.ranged;
            visit = rw one at (visit_more_list N (reading stored) (reading volts) after n short h.visit (above, there) waits high);
            under = omega (arith, lower, h.under);
            still = λ e. absurd (false≢true (sym e));
            falls = λ m. omega (arith, lower, h.under);
            back = λ e j f l. set_cases (λ (k : ℕ) (u : ℤ). u ≡ reading volts k) after n j (reading volts n) short refl (λ m. h.back e j f (omega (arith, m)));
            waiting = λ m. let u = h.waiting m in (
              u.0,
              u.1,
              omega (arith, u.2),
              set_cases (λ (k : ℕ) (v : ℤ). n < k → reading volts k <ℤ v) after n u.0 (reading volts n) short (λ q. absurd (omega arith)) (λ q r. u.3) (omega (arith, u.2)),
            );
          }

        pub lap_goes : {next : List ℤ} → (next ≡ set after n (reading volts n)) × (reading volts n <ℤ reading after n) × (pos 0 <ℤ net 1 (network_on board stretches) (reading stored) (reading after) n) → LapTo board stretches stored volts before next true wait n
        lap_goes k = subst (λ (l : List ℤ). LapTo board stretches stored volts before l true wait n) (sym k.0) (gone k.1 k.2)

    -- ---- the end of a lap

    module _ {w : List ℤ} (given : Searching board stretches stored after w) (past : i ≤ driven_on board + 1) where
      pub lap_through : wait ≡ false → (j : ℕ) → j ≤ nodes_on board → reading after j ≡ reading volts j
      lap_through e = by_node N (λ (j : ℕ). reading after j ≡ reading volts j)
          (λ j f. ⊎_elim
          (λ (q : reading after j ≡ reading volts j). q)
          (λ (q : (reading after j ≡ reading volts j +ℤ pos 1) × Free N j × (reading volts j <ℤ pos voltage_limit)). absurd (omega (arith, q.1)))
          (visit_law N (reading stored) (reading volts) (reading after) h.visit j (omega (arith, given.evaluable.ready.laid.limits.wired.driven_there))))
          (λ j f. h.back e j f (omega (arith, f.0)))

      pub lap_sticks : went ≡ false → wait ≡ true → Waiting board stretches volts after × Stuck board stretches stored volts after
      lap_sticks e m = let u = h.waiting m in (record { node = u.0; free = u.1; waits = u.3 }, λ j f. h.still e j f (omega (arith, f.0)))

-- ---- a visit in which all that wait may go at once: it gets through, as a node that goes back only raises the net currents of the others

module _ {N : Network} {x z s : ℕ → ℤ} (wired : Wired N) (v : Visit N x z s) (go : (i : ℕ) → Free N i → z i <ℤ s i → pos 0 <ℤ net 1 N x s i) where
  -- the nodes below n have gone back, and no node has risen
  record BackTo (n : ℕ) : Type 0 where
    place : ℕ → ℤ
    visit : Visit N x z place
    under : Under N place s
    back : (j : ℕ) → j < n → j ≤ N.nodes → place j ≡ z j

  -- node n stands where it did: it goes back if it waits
  module _ {n : ℕ} (there : n ≤ N.nodes) (b : BackTo n) where
    was_back : b.place n ≡ z n → BackTo (suc n)
    was_back e = record {
      place = b.place;
      visit = b.visit;
      under = b.under;
      back = λ j l. ⊎_elim (λ (m : suc j ≤ n). b.back j m) (λ (m : n < suc j). let q : j ≡ n = omega arith in rw q (λ h. e)) (decide_n (suc j) n);
    }

    module _ (free : Free N n) (one : b.place n ≡ z n +ℤ pos 1) where
      -- all the way from s
      stood : s n ≤ℤ b.place n
      stood = ⊎_elim
          (λ (e : s n ≡ z n). omega (signs, e, one, add_law (z n) (pos 1), pos_law 1))
          (λ (e : (s n ≡ z n +ℤ pos 1) × Free N n × (z n <ℤ pos voltage_limit)). omega (signs, e.0, one))
          (visit_law N x z s v n there)

      waits : z n <ℤ b.place n
      waits = omega (signs, one, add_law (z n) (pos 1), pos_law 1)

      high : pos 0 <ℤ net 1 N x b.place n
      high = omega (signs, go n free (omega (signs, waits, b.under n there)), others_rise 1 N x b.place s n wired b.under stood)

      goes : BackTo (suc n)
      goes = record {
        place = lowered b.place n 1;
        visit = visit_more N x z b.place n b.visit free waits high;
        under = λ j l. omega (signs, lowered_under b.place n 1 j, b.under j l);
        back = λ j l h. ⊎_elim
            (λ (e : (j ≡ n) × (lowered b.place n 1 j ≡ b.place j -ℤ pos 1)). rw e.0 (omega (signs, lowered_here b.place n 1, one, add_law (z n) (pos 1), sub_law (b.place n) (pos 1))))
            (λ (e : (j ≡ n → ⊥) × (lowered b.place n 1 j ≡ b.place j)). e.1 ∙ b.back j (omega (arith, e.0)) h)
            (lowered_law b.place n 1 j);
      }

    back_more : BackTo (suc n)
    back_more = ⊎_elim was_back
        (λ (e : (b.place n ≡ z n +ℤ pos 1) × Free N n × (z n <ℤ pos voltage_limit)). goes e.1 e.0)
        (visit_law N x z b.place b.visit n there)

  back_to : (n : ℕ) → n ≤ suc N.nodes → BackTo n
  back_to zero l = record { place = s; visit = v; under = λ j h. omega signs; back = λ j m. absurd (omega arith) }
  back_to (suc n) l = back_more (omega arith) (back_to n (omega arith))

  pub all_through : Through N x z
  all_through = let b = back_to (suc N.nodes) (omega arith) in record { place = b.place; visit = b.visit; back = λ j l. b.back j (omega arith) l }

-- ---- the end of the visit

module _ {board : List ℕ} {stretches stored volts s w : List ℤ} (v : Visiting board stretches stored volts s w) where
  abbrev wired : Wired (network_on board stretches)
  wired = v.searching.evaluable.ready.laid.limits.wired

  pub judged_highest : ((j : ℕ) → j ≤ nodes_on board → reading s j ≡ reading volts j) → (d : ℕ → ℤ) → Legal (network_on board stretches) d (reading volts) → Low (network_on board stretches) (reading stored) (reading volts) → Answer (network_on board stretches) (reading stored) d (reading volts)
  judged_highest back d legal low = certify (network_on board stretches) (reading stored) d (reading volts) wired legal low (record { place = reading s; visit = v.visit; back = back })

  pub judged_at_once : AllGo board volts s w → (d : ℕ → ℤ) → Legal (network_on board stretches) d (reading volts) → Low (network_on board stretches) (reading stored) (reading volts) → Answer (network_on board stretches) (reading stored) d (reading volts)
  judged_at_once go d legal low =
      certify (network_on board stretches) (reading stored) d (reading volts) wired legal low
      (all_through wired v.visit (λ i f waits. rw (v.searching.netted.each i f.1) at (go i f.0 f.1 waits)))

  pub judged_higher : Waiting board stretches volts s → Stuck board stretches stored volts s → Risen board stretches stored volts s
  judged_higher w sticks =
      let over = visit_over (network_on board stretches) (reading stored) (reading volts) (reading s) v.visit in
      record {
        over = over;
        falls = depth_falls (network_on board stretches) (reading s) (reading volts) w.node w.free.1 over w.waits (omega (signs, v.searching.evaluable.ranged w.node w.free.1, abs_law (reading s w.node), pos_law voltage_limit));
        low = λ d legal low. stuck (network_on board stretches) (reading stored) d (reading volts) wired legal low (reading s) v.visit sticks;
      }
