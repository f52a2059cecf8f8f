-- Settle: from voltages z, by Step and Leap, to the greatest legal low assignment under z, or that there is none. `Settling` is what holds all along, and
-- Measures has what falls. From a start (Hold) what is settled is the answer. The list forms speak of `set` and `reading`. Assumes nothing.
use mathlib.Core.Path.{◌≡◌, refl, sym, subst}
use mathlib.Core.List.{List}
use mathlib.Core.Logic.{◌⊎◌, inl, ⊎_elim}
use Prim.Native.Nat.{ℕ, zero, suc, ◌+◌, ◌*◌, ◌≤◌, ◌<◌}
use native.Mathlib.Omega.{arith}
use lib.ListN.{length, set}
use lib.IntN.{ℤ, pos, nat_abs, ◌-ℤ◌}
use lib.Signed.{◌≤ℤ◌, ◌<ℤ◌}
use Rattle.units.specs.Integer.{up, dn, rounded_up}
use Rattle.units.specs.Voltage.{voltage_limit, bottom}
use Rattle.units.proofs.Integers.{signs, neg_law, pos_law, abs_law, one_sided}
use Rattle.units.proofs.Sizes.{abs_within, rounded_up_law}
use Rattle.network.specs.Network.{Network, Fixed, Free, reading, net, steepest, Wired}
use Rattle.network.specs.Sample.{Drives, Legal, Under, Above, Answer, Empty}
use Rattle.network.specs.Search.{Covers, Settling, Settled, NoneUnder, lowered, Sank, still, sunk}
use Rattle.network.proofs.Hold.{keep_drives, leak_steepest}
use Rattle.network.proofs.Lowering.{lowered_law, lowered_here, lowered_under, store_lowers}
use Rattle.network.proofs.Descend.{descend, sank_under, sank_drives, lowered_drives, allowed}

-- ---- beginning and end

pub settling_start : (N : Network) (x d z : ℕ → ℤ) → Legal N d z → Settling N x d z z
settling_start N x d z legal = record { legal = legal; under = λ j l. omega signs; covers = λ w lw low under. under }

-- from a start, what is settled is the answer, and where nothing is there is none at all
pub settled_answer : (N : Network) (x d z v : ℕ → ℤ) → Above N x d z → Settled N x d z v → Answer N x d v
settled_answer N x d z v above s = record { legal = s.settling.legal; low = s.low; highest = λ w legal low. s.settling.covers w legal low (above w legal low) }

pub none_empty : (N : Network) (x d z : ℕ → ℤ) → Above N x d z → NoneUnder N x d z → Empty N x d
none_empty N x d z above none w legal low = none w legal low (above w legal low)

-- a node that must leave the range shows that there is none
out_of_range : (N : Network) (x d z u : ℕ → ℤ) (i : ℕ) → Covers N x d z u → Free N i → u i <ℤ bottom → NoneUnder N x d z
out_of_range N x d z u i covers free out w legal low under =
    omega (signs, covers w legal low under i free.1, neg_law (pos voltage_limit), pos_law voltage_limit, legal.range i free, abs_law (w i))

module _ (N : Network) (x d z v : ℕ → ℤ) (s : Settling N x d z v) where
  -- the search may go on at u if that still covers, has the drives, is not higher, and has not left the range
  settling_at : (u : ℕ → ℤ) → Covers N x d z u → Drives 1 N d u → Under N u v → ((i : ℕ) → Free N i → bottom ≤ℤ u i) → Settling N x d z u
  settling_at u covers drives below over = record {
    legal = record {
      drives = drives;
      range = λ i f. abs_within (u i) voltage_limit
          (omega (signs, below i f.1, s.legal.range i f, abs_law (v i)))
          (omega (signs, over i f, neg_law (pos voltage_limit), pos_law voltage_limit));
    };
    under = λ j l. omega (signs, below j l, s.under j l);
    covers = covers;
  }

  -- .. as with one node lowered
  module _ (i : ℕ) (free : Free N i) where
    lowered_settling : (t : ℕ) → Covers N x d z (lowered v i t) → bottom ≤ℤ (v i -ℤ pos t) → Settling N x d z (lowered v i t)
    lowered_settling t covers over = settling_at (lowered v i t) covers (lowered_drives N d v i t free s.legal.drives) (λ j l. lowered_under v i t j) range
      where
        range : (j : ℕ) → Free N j → bottom ≤ℤ lowered v i t j
        range j f = ⊎_elim
            (λ (e : (j ≡ i) × (lowered v i t j ≡ v j -ℤ pos t)). rw (e.1, e.0) over)
            (λ (e : (j ≡ i → ⊥) × (lowered v i t j ≡ v j)). omega (signs, neg_law (pos voltage_limit), pos_law voltage_limit, s.legal.range j f, abs_law (v j))) (lowered_law v i t j)

  -- ---- Step: node i lowered by r + 1, where one evaluation shows its net current above zero when lowered by r
  module _ (i r : ℕ) (wired : Wired N) (free : Free N i) (high : pos 0 <ℤ net 1 N x (lowered v i r) i) where
    step_covers : Covers N x d z (lowered v i (suc r))
    step_covers w legal low under =
        descend N x d v v (lowered v i (suc r)) w wired s.legal.drives (sunk i r (still (λ j l. refl)) free high) (λ j l. inl (omega signs)) legal low (s.covers w legal low under)

    pub step_settling : bottom ≤ℤ (v i -ℤ pos (suc r)) → Settling N x d z (lowered v i (suc r))
    step_settling over = lowered_settling i free (suc r) step_covers over

    pub step_none : (v i -ℤ pos (suc r)) <ℤ bottom → NoneUnder N x d z
    step_none out = out_of_range N x d z (lowered v i (suc r)) i step_covers free (rw (lowered_here v i (suc r)) out)

  -- ---- Leap: s₁ is v lowered at some free nodes, e sank from it, and is lower than s₁ wherever s₁ is lower than v
  module _ (s₁ e : ℕ → ℤ) (wired : Wired N) (same : (j : ℕ) → Fixed N j → s₁ j ≡ v j) (lower : Under N s₁ v) (sank : Sank N x s₁ e) (falls : (j : ℕ) → j ≤ N.nodes → (v j ≤ℤ s₁ j) ⊎ (e j <ℤ s₁ j)) where
    leap_drives : Drives 1 N d s₁
    leap_drives = keep_drives v s₁ s.legal.drives same

    leap_covers : Covers N x d z e
    leap_covers w legal low under = descend N x d v s₁ e w wired leap_drives sank falls legal low (s.covers w legal low under)

    pub leap_settling : ((i : ℕ) → Free N i → bottom ≤ℤ e i) → Settling N x d z e
    leap_settling = settling_at e leap_covers (sank_drives d wired sank leap_drives) (λ j l. omega (signs, sank_under sank j l, lower j l))

-- ---- Step by the net current over the steepest sum, rounded up: it never passes the answer

-- the step that the steepest sum allows
abbrev pub step_of : Network → (ℕ → ℤ) → (ℕ → ℤ) → ℕ → ℕ
step_of N x v i = rounded_up (nat_abs (net 1 N x v i)) (steepest N i)

step_allowed : (N : Network) (x v : ℕ → ℤ) (i : ℕ) → Wired N → 1 ≤ N.leak → pos 0 <ℤ net 1 N x v i → (r : ℕ) × (step_of N x v i ≡ suc r) × (pos 0 <ℤ net 1 N x (lowered v i r) i)
step_allowed N x v i wired leaks high = go (rounded_up (nat_abs f) S) refl
  where
    f : ℤ
    f = net 1 N x v i

    S : ℕ
    S = steepest N i

    law : (nat_abs f ≤ S * rounded_up (nat_abs f) S) × (S * rounded_up (nat_abs f) S < nat_abs f + S)
    law = rounded_up_law (nat_abs f) S (omega (arith, leak_steepest N i))

    -- it is above zero
    unsigned : dn f ≡ 0
    unsigned = ⊎_elim (λ (h : dn f ≡ 0). h) (λ (h : up f ≡ 0). omega (signs, high, pos_law 0)) (one_sided f)

    go : (t : ℕ) → rounded_up (nat_abs f) S ≡ t → (r : ℕ) × (t ≡ suc r) × (pos 0 <ℤ net 1 N x (lowered v i r) i)
    go zero e = absurd (omega (signs, rw e at law, high, pos_law 0, abs_law f))
    go (suc r) e = (r, refl, allowed N x v i r wired (omega (signs, rw e at law, unsigned, abs_law f, pos_law (S * r))))

-- ---- over a list: one store

module _ (N : Network) (x d z : ℕ → ℤ) (l : List ℤ) (i : ℕ) (wired : Wired N) (s : Settling N x d z (reading l)) (short : i < length l) (free : Free N i) where
  -- the list with node i lowered by t
  abbrev down : ℕ → List ℤ
  down t = set l i (reading l i -ℤ pos t)

  to_store : (P : (ℕ → ℤ) → Type 0) (t : ℕ) → P (lowered (reading l) i t) → P (reading (down t))
  to_store P t h = subst P (sym (store_lowers l i t short)) h

  -- by what the steepest sum allows
  module _ (leaks : 1 ≤ N.leak) (high : pos 0 <ℤ net 1 N x (reading l) i) where
    pub ceil_settling_list : bottom ≤ℤ (reading l i -ℤ pos (step_of N x (reading l) i)) → Settling N x d z (reading (down (step_of N x (reading l) i)))
    ceil_settling_list over =
        let a = step_allowed N x (reading l) i wired leaks high in
        rw a.1 (to_store (λ (u : ℕ → ℤ). Settling N x d z u) (suc a.0) (step_settling N x d z (reading l) s i a.0 wired free a.2 (rw a.1 at over)))

    pub ceil_none_list : (reading l i -ℤ pos (step_of N x (reading l) i)) <ℤ bottom → NoneUnder N x d z
    ceil_none_list out =
        let a = step_allowed N x (reading l) i wired leaks high in
        step_none N x d z (reading l) s i a.0 wired free a.2 (rw a.1 at out)
