-- Certify: whether a legal low assignment z is the answer, by one visit of its nodes; and Climb: a higher one where it isn't. The visit begins with z raised by
-- one at every free node below the top. A node that stands above z waits, and is lowered again once its net current is above zero. Assumes nothing.
use mathlib.Core.Path.{◌≡◌, refl, sym, ◌∙◌, subst}
use mathlib.Core.Bool.{Bool, true, false, cond, ◌&&◌}
use mathlib.Core.List.{List}
use mathlib.Core.Logic.{◌⊎◌, inl, inr, ⊎_elim, ◌↔◌}
use Prim.Native.Nat.{ℕ, zero, suc, ◌≤◌, ◌<◌}
use native.Mathlib.Omega.{arith}
use native.Mathlib.Nat.{le_refl}
use lib.Dec.{ltb, leb}
use lib.ListN.{length, set}
use borrow.Author.Tests.{ltb-true, ltb-false, leb-true, leb-false}
use lib.IntN.{ℤ, pos, ◌+ℤ◌, ◌-ℤ◌}
use lib.Signed.{◌≤ℤ◌, ◌<ℤ◌, lt_z, lt_z_no}
use Rattle.units.specs.Voltage.{voltage_limit}
use Rattle.units.proofs.Integers.{signs, add_law, sub_law, neg_law, pos_law, abs_law, decide}
use Rattle.units.proofs.Sizes.{abs_within}
use Rattle.network.specs.Network.{Network, Fixed, Free, reading, net, Wired}
use Rattle.network.specs.Sample.{Drives, Legal, Low, Under, Answer}
use Rattle.network.specs.Search.{lowered, still, raised, Visit, Through, height}
use Rattle.network.proofs.Nodes.{by_node, find}
use Rattle.network.proofs.Compare.{others_rise}
use Rattle.network.proofs.Hold.{same_fixed, keep_drives}
use Rattle.network.proofs.Lowering.{lowered_law, lowered_here, lowered_under, store_lowers}
use Rattle.network.proofs.Descend.{descend, sunk_one}
use Rattle.network.proofs.Measures.{height_falls}

-- ---- the visit

-- a free node below the top is raised by one
Lifted : Network → (ℕ → ℤ) → ℕ → Type 0
Lifted N z j = (raised N z j ≡ z j +ℤ pos 1) × Free N j × (z j <ℤ pos voltage_limit)

-- any other is not
Kept : Network → (ℕ → ℤ) → ℕ → Type 0
Kept N z j = (raised N z j ≡ z j) × (Free N j → pos voltage_limit ≤ℤ z j)

raised_law : (N : Network) (z : ℕ → ℤ) (j : ℕ) → Lifted N z j ⊎ Kept N z j
unfolding raised Lifted Kept
raised_law N z j = go (ltb N.driven j) (leb j N.nodes) (lt_z (z j) (pos voltage_limit)) refl refl refl
  where
    at : Bool → Bool → Bool → ℤ
    at a b c = cond (a && (b && c)) (z j +ℤ pos 1) (z j)

    go : (a b c : Bool) → ltb N.driven j ≡ a → leb j N.nodes ≡ b → lt_z (z j) (pos voltage_limit) ≡ c → ((at a b c ≡ z j +ℤ pos 1) × Free N j × (z j <ℤ pos voltage_limit)) ⊎ ((at a b c ≡ z j) × (Free N j → pos voltage_limit ≤ℤ z j))
    go true true true p q r = inl (refl, (ltb-true _ _ p, leb-true _ _ q), record { lt = rw r tt })
    go true true false p q r = inr (refl, λ f. lt_z_no (rw r tt))
    go true false c p q r = inr (refl, λ f. absurd (omega (arith, leb-false j N.nodes q)))
    go false b c p q r = inr (refl, λ f. absurd (omega (arith, ltb-false N.driven j p)))

-- what a loop that raises a list has to meet
module _ (N : Network) (z : ℕ → ℤ) (j : ℕ) where
  pub raised_free : Free N j → z j <ℤ pos voltage_limit → raised N z j ≡ z j +ℤ pos 1
  unfolding Lifted Kept
  raised_free free below = ⊎_elim (λ (h : Lifted N z j). h.0) (λ (h : Kept N z j). absurd (omega (signs, h.1 free))) (raised_law N z j)

  pub raised_top : pos voltage_limit ≤ℤ z j → raised N z j ≡ z j
  unfolding Lifted Kept
  raised_top top = ⊎_elim (λ (h : Lifted N z j). absurd (omega (signs, h.2))) (λ (h : Kept N z j). h.0) (raised_law N z j)

  pub raised_fixed : Fixed N j → raised N z j ≡ z j
  unfolding Lifted Kept
  raised_fixed fixed = ⊎_elim (λ (h : Lifted N z j). absurd (omega (arith, h.1))) (λ (h : Kept N z j). h.0) (raised_law N z j)

module _ (N : Network) (x z : ℕ → ℤ) where
  -- s is z raised, as the code has stored it
  pub visit_start : (s : ℕ → ℤ) → ((j : ℕ) → j ≤ N.nodes → s j ≡ raised N z j) → Visit N x z s
  visit_start s same = record { sank = still same; each = λ j l. inr (same j l) }

  -- a waiting node is visited when its net current is above zero. (By others-rise it stays so while others are visited: any order will do.)
  pub visit_more : (s : ℕ → ℤ) (i : ℕ) → Visit N x z s → Free N i → z i <ℤ s i → pos 0 <ℤ net 1 N x s i → Visit N x z (lowered s i 1)
  unfolding Lifted Kept
  visit_more s i v free waits high = record { sank = sunk_one i v.sank free high; each = each }
    where
      -- a raised node that is lowered by one is back
      down : s i -ℤ pos 1 ≡ z i
      down = ⊎_elim
          (λ (h : s i ≡ z i). absurd (omega signs))
          (λ (h : s i ≡ raised N z i). ⊎_elim
          (λ (r : Lifted N z i). omega (signs, r.0, add_law (z i) (pos 1), sub_law (s i) (pos 1)))
          (λ (r : Kept N z i). absurd (omega (signs, r.0)))
          (raised_law N z i)) (v.each i free.1)

      each : (j : ℕ) → j ≤ N.nodes → (lowered s i 1 j ≡ z j) ⊎ (lowered s i 1 j ≡ raised N z j)
      each j l = ⊎_elim
          (λ (e : (j ≡ i) × (lowered s i 1 j ≡ s j -ℤ pos 1)). inl (rw e.0 (lowered_here s i 1 ∙ down)))
          (λ (e : (j ≡ i → ⊥) × (lowered s i 1 j ≡ s j)). ⊎_elim (λ (h : s j ≡ z j). inl (e.1 ∙ h)) (λ (h : s j ≡ raised N z j). inr (e.1 ∙ h)) (v.each j l))
          (lowered_law s i 1 j)

  -- over a list: one store
  pub visit_more_list : (l : List ℤ) (i : ℕ) → i < length l → Visit N x z (reading l) → Free N i → z i <ℤ reading l i → pos 0 <ℤ net 1 N x (reading l) i → Visit N x z (reading (set l i (reading l i -ℤ pos 1)))
  visit_more_list l i short v free waits high = subst (λ (s : ℕ → ℤ). Visit N x z s) (sym (store_lowers l i 1 short)) (visit_more (reading l) i v free waits high)

  -- where the visit has come to: at z, or one above it at a free node below the top
  pub visit_law : (s : ℕ → ℤ) → Visit N x z s → (j : ℕ) → j ≤ N.nodes → (s j ≡ z j) ⊎ ((s j ≡ z j +ℤ pos 1) × Free N j × (z j <ℤ pos voltage_limit))
  unfolding Lifted Kept
  visit_law s v j l = ⊎_elim
      (λ (h : s j ≡ z j). inl h)
      (λ (h : s j ≡ raised N z j). ⊎_elim (λ (r : Lifted N z j). inr (h ∙ r.0, r.1, r.2)) (λ (r : Kept N z j). inl (h ∙ r.0)) (raised_law N z j))
      (v.each j l)

  pub visit_over : (s : ℕ → ℤ) → Visit N x z s → Under N z s
  visit_over s v j l = ⊎_elim
      (λ (h : s j ≡ z j). omega signs)
      (λ (h : (s j ≡ z j +ℤ pos 1) × Free N j × (z j <ℤ pos voltage_limit)). omega (signs, h.0, add_law (z j) (pos 1), pos_law 1)) (visit_law s v j l)

module _ (N : Network) (x d z : ℕ → ℤ) (wired : Wired N) (legal : Legal N d z) (low : Low N x z) where
  -- ---- Climb: z raised at some free nodes, within the range, with no net current above zero where it is raised, is legal and low. (The others only fall.)
  pub climb : (u : ℕ → ℤ) → ((j : ℕ) → Fixed N j → u j ≡ z j) → Under N z u → ((i : ℕ) → Free N i → u i ≤ℤ pos voltage_limit) → ((i : ℕ) → Free N i → (u i ≤ℤ z i) ⊎ (net 1 N x u i ≤ℤ pos 0)) → Legal N d u × Low N x u
  climb u same over range each = (
    record {
      drives = keep_drives z u legal.drives same;
      range = λ i f. abs_within (u i) voltage_limit (omega (signs, range i f, pos_law voltage_limit)) (omega (signs, over i f.1, legal.range i f, abs_law (z i)));
    },
    λ i f. ⊎_elim
        (λ (h : u i ≤ℤ z i). omega (signs, low i f, others_rise 1 N x z u i wired over h))
        (λ (h : net 1 N x u i ≤ℤ pos 0). h) (each i f),
  )

  -- a visit that sticks, no waiting node having a net current above zero, has come to a legal low assignment
  module _ (s : ℕ → ℤ) (v : Visit N x z s) (sticks : (i : ℕ) → Free N i → z i <ℤ s i → net 1 N x s i ≤ℤ pos 0) where
    pub stuck : Legal N d s × Low N x s
    stuck = climb s
        (λ j f. ⊎_elim (λ (h : s j ≡ z j). h) (λ (h : (s j ≡ z j +ℤ pos 1) × Free N j × (z j <ℤ pos voltage_limit)). absurd (omega (arith, h.1))) (visit_law N x z s v j (omega (arith, wired.driven_there))))
        (visit_over N x z s v)
        (λ i f. ⊎_elim (λ (h : s i ≡ z i). omega (signs, legal.range i f, abs_law (z i), pos_law voltage_limit)) (λ (h : (s i ≡ z i +ℤ pos 1) × Free N i × (z i <ℤ pos voltage_limit)). omega (signs, h.0, h.2, add_law (z i) (pos 1), pos_law 1)) (visit_law N x z s v i f.1))
        (λ i f. ⊎_elim (λ (h : s i ≤ℤ z i). inl h) (λ (h : z i <ℤ s i). inr (sticks i f h)) (decide (s i) (z i)))

    -- so if z is the answer, no node waits
    pub stuck_back : Answer N x d z → (j : ℕ) → j ≤ N.nodes → s j ≡ z j
    stuck_back a j there = omega (signs, a.highest s stuck.0 stuck.1 j there, visit_over N x z s v j there)

  -- ---- Certify: a visit that gets through shows that z is the answer
  pub certify : Through N x z → Answer N x d z
  unfolding Lifted Kept
  certify through = record { legal = legal; low = low; highest = highest }
    where
      s : ℕ → ℤ
      s = through.place

      start_drives : Drives 1 N d (raised N z)
      start_drives = keep_drives z (raised N z) legal.drives (raised_fixed N z)

      highest : (w : ℕ → ℤ) → Legal N d w → Low N x w → Under N w z
      highest w lw low-w j there =
          omega (signs, through.back j there, descend N x d w (raised N z) s w wired start_drives through.visit.sank falls lw low-w (λ i l. omega signs) j there)
        where
          -- a free node that isn't raised is at the top, where w cannot pass it
          kept : (j : ℕ) → j ≤ N.nodes → Kept N z j → w j ≤ℤ raised N z j
          kept = by_node N (λ (j : ℕ). Kept N z j → w j ≤ℤ raised N z j)
              (λ j f h. omega (signs, same_fixed w (raised N z) lw.drives start_drives j f))
              (λ j f h. omega (signs, h.0, h.1 f, pos_law voltage_limit, lw.range j f, abs_law (w j)))

          falls : (j : ℕ) → j ≤ N.nodes → (w j ≤ℤ raised N z j) ⊎ (s j <ℤ raised N z j)
          falls j l = ⊎_elim
              (λ (h : Lifted N z j). inr (omega (signs, h.0, through.back j l, add_law (z j) (pos 1), pos_law 1)))
              (λ (h : Kept N z j). inl (kept j l h))
              (raised_law N z j)

  -- ---- and only such: the visit gets through, in whatever order, if z is the answer

  -- a node that may be visited
  Ready : (ℕ → ℤ) → ℕ → Type 0
  Ready s i = Free N i × (z i <ℤ s i) × (pos 0 <ℤ net 1 N x s i)

  ready_or_not : (s : ℕ → ℤ) → Visit N x z s → (i : ℕ) → i < suc N.nodes → Ready s i ⊎ (Free N i → z i <ℤ s i → net 1 N x s i ≤ℤ pos 0)
  unfolding Ready
  ready_or_not s v i l = ⊎_elim
      (λ (same : s i ≡ z i). inr (λ free waits. absurd (omega signs)))
      (λ (h : (s i ≡ z i +ℤ pos 1) × Free N i × (z i <ℤ pos voltage_limit)). ⊎_elim
      (λ (low : net 1 N x s i ≤ℤ pos 0). inr (λ free waits. low))
      (λ (high : pos 0 <ℤ net 1 N x s i). inl (h.1, omega (signs, h.0, add_law (z i) (pos 1), pos_law 1), high)) (decide (net 1 N x s i) (pos 0)))
      (visit_law N x z s v i (omega arith))

  -- one turn of the visit: it is through, or it goes on lower down
  turn : Answer N x d z → (s : ℕ → ℤ) → Visit N x z s → ((u : ℕ → ℤ) → Visit N x z u → height N u < height N s → Through N x z) → Through N x z
  unfolding Ready
  turn a s v again = ⊎_elim
      (λ (f : (i : ℕ) × (i < suc N.nodes) × Ready s i). visit f.0 f.2.0 f.2.1 f.2.2)
      (λ (none : (i : ℕ) → i < suc N.nodes → Free N i → z i <ℤ s i → net 1 N x s i ≤ℤ pos 0). record { place = s; visit = v; back = stuck_back s v (λ i f. none i (omega arith) f) a })
      (find (Ready s) (λ (i : ℕ). Free N i → z i <ℤ s i → net 1 N x s i ≤ℤ pos 0) (suc N.nodes) (ready_or_not s v))
    where
      visit : (i : ℕ) → Free N i → z i <ℤ s i → pos 0 <ℤ net 1 N x s i → Through N x z
      visit i free waits high = again (lowered s i 1) (visit_more N x z s i v free waits high)
          (height_falls N (lowered s i 1) s i free.1 (λ j l. lowered_under s i 1 j)
          (omega (signs, lowered_here s i 1, sub_law (s i) (pos 1), pos_law 1))
          (omega (signs, legal.range i free, abs_law (z i), neg_law (pos voltage_limit), pos_law voltage_limit)))

  run : Answer N x d z → (fuel : ℕ) (s : ℕ → ℤ) → Visit N x z s → height N s ≤ fuel → Through N x z
  run a zero s v l = turn a s v (λ u vu less. absurd (omega arith))
  run a (suc fuel) s v l = turn a s v (λ u vu less. run a fuel u vu (omega arith))

  pub certified_exactly : Answer N x d z ↔ Through N x z
  certified_exactly = (λ a. run a (height N (raised N z)) (raised N z) (visit_start N x z (raised N z) (λ j l. refl)) (le_refl _), certify)
