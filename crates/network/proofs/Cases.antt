-- The table of proved cases holds: one computed test over it, and one lemma that turns the test into what the table says. Assumes nothing.
use mathlib.Core.Path.{◌≡◌, refl, sym, ◌∙◌, ap}
use mathlib.Core.Bool.{Bool, true, false, ◌&&◌, ◌||◌}
use mathlib.Core.List.{List, [], ◌∷◌}
use mathlib.Core.Logic.{◌⊎◌, inl, inr, ⊎_elim}
use Prim.Native.Nat.{ℕ, zero, suc, ◌+◌, ◌*◌, ◌-◌, ◌≤◌, ◌<◌}
use native.Mathlib.Omega.{arith}
use native.Mathlib.Nat.{le_refl, mul-le-mul}
use lib.Dec.{T, eqb, eqb→eq, leb, leb→le, ltb, ltb→lt}
use lib.ListN.{length, get_or, get_or-append}
use lib.Seq.{get_or-append_seam}
use lib.IntN.{ℤ, pos, neg_ℤ, nat_abs, ◌+ℤ◌}
use lib.Signed.{◌≤ℤ◌, ◌<ℤ◌, le_z, lt_z}
use Rattle.units.specs.Integer.{up, dn, lower, higher, sum, total}
use Rattle.units.specs.Voltage.{voltage_limit, drive_limit, within}
use Rattle.units.proofs.Integers.{signs, le_out, eq_out, add_law, neg_law, pos_law, abs_law, scale_one, Reach, decide, decide_n}
use Rattle.units.specs.Number.{number_of}
use Rattle.network.specs.Network.{no_branch, Network, Free, reading, ramp, current, leaving, net, conductance_of, greatest, steepest_of, held_by_branch, steepest_by, held, steepest, advance, next, stored_limit, Wired}
use Rattle.network.specs.Sample.{Drives, Legal, Answer, Empty, answer_of, Gives}
use Rattle.network.specs.Bound.{LeastEnough}
use Rattle.network.specs.Cases.{Circuit, network_of, Result, settles, rail, voltages, outcome_of, Case, sample, bound, Holds, AllHold, cases}
use Rattle.network.proofs.Nodes.{by_node}
use Rattle.network.proofs.Compare.{compare}
use Rattle.network.proofs.Hold.{same_fixed, top_start}

-- ---- one free node: the answer is a computed test

module _ (N : Network) (x d : ℕ → ℤ) (wired : Wired N) (alone : N.nodes ≡ suc N.driven) where
  -- the free node
  abbrev node : ℕ
  node = N.nodes

  only : (P : ℕ → Type 0) → P node → (i : ℕ) → Free N i → P i
  only P h i f = let e : i ≡ node = omega arith in rw e h

  -- its net current never falls with its voltage
  rises : (w u : ℕ → ℤ) → Drives 1 N d w → Drives 1 N d u → u node ≤ℤ w node → net 1 N x u node ≤ℤ net 1 N x w node
  rises w u dw du h =
      omega (signs, compare 1 N x w u node t wired (record { every = every; fixed = λ j f. omega (arith, eq_out (same_fixed w u dw du j f)) }) (omega (arith, le_out h)))
    where
      t : ℕ
      t = (up (w node) + dn (u node)) - (up (u node) + dn (w node))

      every : (j : ℕ) → j ≤ node → Reach (u j) t (w j)
      every = by_node N (λ (j : ℕ). Reach (u j) t (w j)) (λ j f. omega (arith, eq_out (same_fixed w u dw du j f))) (only (λ (j : ℕ). Reach (u j) t (w j)) (omega arith))

  -- low as it stands, and not one microvolt higher
  answer_at : (v u : ℕ → ℤ) → Legal N d v → Drives 1 N d u → u node ≡ v node +ℤ pos 1 → net 1 N x v node ≤ℤ pos 0 → pos 0 <ℤ net 1 N x u node → Answer N x d v
  answer_at v u legal drives one low high = record {
    legal = legal;
    low = only (λ (i : ℕ). net 1 N x v i ≤ℤ pos 0) low;
    highest = λ w lw low-w. by_node N (λ (j : ℕ). w j ≤ℤ v j)
        (λ j f. omega (signs, same_fixed w v lw.drives legal.drives j f))
        (only (λ (j : ℕ). w j ≤ℤ v j) (⊎_elim
        (λ (a : w node ≤ℤ v node). a)
        (λ (a : v node <ℤ w node). absurd (omega (signs, rises w u lw.drives drives (omega (signs, one, add_law (v node) (pos 1), pos_law 1)), low-w node (omega arith), high)))
        (decide (w node) (v node))));
  }

  -- not low at the bottom of the range
  none_at : (u : ℕ → ℤ) → Drives 1 N d u → u node ≡ neg_ℤ (pos voltage_limit) → pos 0 <ℤ net 1 N x u node → Empty N x d
  none_at u drives lowest high w legal low = omega (signs, rises w u legal.drives drives least, low node (omega arith), high)
    where
      least : u node ≤ℤ w node
      least = omega (signs, lowest, neg_law (pos voltage_limit), pos_law voltage_limit, abs_law (w node), legal.range node (omega arith))

  -- low at the top
  top_at : (u : ℕ → ℤ) → Drives 1 N d u → u node ≡ pos voltage_limit → net 1 N x u node ≤ℤ pos 0 → Answer N x d u
  top_at u drives top low = record {
    legal = record { drives = drives; range = λ i f. only (λ (i : ℕ). nat_abs (u i) ≤ voltage_limit) (rw top (le_refl voltage_limit)) i f };
    low = only (λ (i : ℕ). net 1 N x u i ≤ℤ pos 0) low;
    highest = top_start N x d u drives (only (λ (i : ℕ). u i ≡ pos voltage_limit) top);
  }

-- ---- the test

abbrev all_of : List Bool → Bool
all_of [] = true
all_of (t ∷ ts) = t && all_of ts

abbrev all_below : (ℕ → Bool) → ℕ → Bool
all_below f zero = true
all_below f (suc n) = f n && all_below f n

abbrev same_z : ℤ → ℤ → Bool
same_z a b = le_z a b && le_z b a

-- the net current of the free node at z
abbrev net_at : Circuit → List ℤ → List ℤ → ℤ → ℤ
net_at c stored drives z = net 1 (network_of c) (reading stored) (voltages drives z) (suc c.driven)

abbrev wired_test : Circuit → Bool
wired_test c = all_below (λ (j : ℕ). leb (get_or c.branches j no_branch).p (suc c.driven) && leb (get_or c.branches j no_branch).q (suc c.driven)) (length c.branches)

-- for a sample: wired, as many drives as there are driven nodes, each within its limit
abbrev sample_tests : Circuit → List ℤ → List Bool
sample_tests c drives = wired_test c ∷ eqb (length drives) c.driven ∷ all_below (λ (j : ℕ). within drive_limit (reading drives j)) c.driven ∷ []

-- .. and either the answer and the stored currents after it, or the rail
abbrev result_tests : Circuit → List ℤ → List ℤ → Result → List Bool
result_tests c stored drives (settles z after) =
    within voltage_limit z
    ∷ lt_z z (pos voltage_limit)
    ∷ le_z (net_at c stored drives z) (pos 0)
    ∷ lt_z (pos 0) (net_at c stored drives (z +ℤ pos 1))
    ∷ all_below (λ (j : ℕ). same_z (reading after j) (next (network_of c) (reading stored) (voltages drives z) j)) (length c.branches)
    ∷ all_below (λ (j : ℕ). within stored_limit (reading after j)) (length c.branches)
    ∷ []
result_tests c stored drives rail = (lt_z (pos 0) (net_at c stored drives (neg_ℤ (pos voltage_limit))) || le_z (net_at c stored drives (pos voltage_limit)) (pos 0)) ∷ []

abbrev passes : Case → Bool
passes (sample c stored drives n r) = all_of (sample_tests c drives) && (all_of (result_tests c stored drives r) && eqb (number_of (answer_of (outcome_of drives r))) n)
passes (bound c zero) = false
passes (bound c (suc B)) =
    let N = network_of c in
    all_of (leb (steepest N N.nodes) (suc B * held N N.nodes) ∷ ltb (B * held N N.nodes) (steepest N N.nodes) ∷ [])

abbrev all_pass : List Case → Bool
all_pass [] = true
all_pass (c ∷ cs) = passes c && all_pass cs

-- ---- what the test stands for

and_both : (a b : Bool) → T (a && b) → T a × T b
and_both true b h = (tt, h)
and_both false b h = absurd h

or_either : (a b : Bool) → T (a || b) → T a ⊎ T b
or_either true b h = inl tt
or_either false b h = inr h

-- test number j of a list
each : (ts : List Bool) → T (all_of ts) → (j : ℕ) → T (get_or ts j true)
each [] h j = tt
each (t ∷ ts) h zero = (and_both t (all_of ts) h).0
each (t ∷ ts) h (suc j) = each ts (and_both t (all_of ts) h).1 j

below : (f : ℕ → Bool) (n : ℕ) → T (all_below f n) → (j : ℕ) → j < n → T (f j)
below f zero h j l = absurd (omega arith)
below f (suc n) h j l =
    let k = and_both (f n) (all_below f n) h in
    ⊎_elim (λ (m : suc j ≤ n). below f n k.1 j m) (λ (m : n < suc j). let e : j ≡ n = omega arith in rw e k.0) (decide_n (suc j) n)

same_says : (a b : ℤ) → T (same_z a b) → a ≡ b
same_says a b h =
    let k = and_both (le_z a b) (le_z b a) h in
    let l : a ≤ℤ b = record { le = k.0 } in
    let r : b ≤ℤ a = record { le = k.1 } in
    omega signs

module _ (c : Circuit) (stored drives : List ℤ) (ok : T (all_of (sample_tests c drives))) where
  abbrev N : Network
  N = network_of c

  sample_wired : Wired N
  sample_wired = record { driven_there = omega arith; p_there = λ j l. leb→le _ _ (ends j l).0; q_there = λ j l. leb→le _ _ (ends j l).1 }
    where
      p : ℕ → Bool
      p j = leb (get_or c.branches j no_branch).p (suc c.driven)

      q : ℕ → Bool
      q j = leb (get_or c.branches j no_branch).q (suc c.driven)

      ends : (j : ℕ) → j < length c.branches → T (p j) × T (q j)
      ends j l = and_both (p j) (q j) (below (λ (j : ℕ). p j && q j) (length c.branches) (each (sample_tests c drives) ok 0) j l)

  lengths : length drives ≡ c.driven
  lengths = eqb→eq (length drives) c.driven (each (sample_tests c drives) ok 1)

  sample_drives : (j : ℕ) → j < c.driven → nat_abs (reading drives j) ≤ drive_limit
  sample_drives j l = leb→le _ _ (below (λ (j : ℕ). within drive_limit (reading drives j)) c.driven (each (sample_tests c drives) ok 2) j l)

  voltages_drives : (z : ℤ) → Drives 1 N (reading drives) (voltages drives z)
  voltages_drives z = record { ground = refl; driven = λ j l. get_or-append drives (z ∷ []) (pos 0) j (omega (arith, lengths)) ∙ sym (scale_one (reading drives j)) }

  voltages_free : (z : ℤ) → voltages drives z (suc c.driven) ≡ z
  voltages_free z = rw (← lengths) (get_or-append_seam drives z [] (pos 0))

  settles_sound : (z : ℤ) (after : List ℤ) → T (all_of (result_tests c stored drives (settles z after))) → Gives N (reading stored) (reading drives) (outcome_of drives (settles z after))
  settles_sound z after h = record {
    drives = sample_drives;
    answer = answer_at N (reading stored) (reading drives) sample_wired refl (voltages drives z) (voltages drives (z +ℤ pos 1))
        (record { drives = voltages_drives z; range = λ i f. free (λ (y : ℤ). nat_abs y ≤ voltage_limit) (leb→le (nat_abs z) voltage_limit (test 0)) i f })
        (voltages_drives (z +ℤ pos 1)) (voltages_free (z +ℤ pos 1) ∙ ap (λ (y : ℤ). y +ℤ pos 1) (sym (voltages_free z)))
        (record { le = test 2 }) (record { lt = test 3 });
    below = free (λ (y : ℤ). y <ℤ pos voltage_limit) (record { lt = test 1 });
    stored = λ j l. same_says (reading after j) (next N (reading stored) (voltages drives z) j) (below (λ (j : ℕ). same_z (reading after j) (next N (reading stored) (voltages drives z) j)) (length c.branches) (test 4) j l);
    kept = λ j l. leb→le _ _ (below (λ (j : ℕ). within stored_limit (reading after j)) (length c.branches) (test 5) j l);
  }
    where
      test : (j : ℕ) → T (get_or (result_tests c stored drives (settles z after)) j true)
      test = each (result_tests c stored drives (settles z after)) h

      -- what holds of z holds at the free node
      free : (P : ℤ → Type 0) → P z → (i : ℕ) → Free N i → P (voltages drives z i)
      free P h i f = let e : i ≡ suc c.driven = omega arith in rw (e, voltages_free z) h

  rail_sound : T (all_of (result_tests c stored drives rail)) → Gives N (reading stored) (reading drives) (outcome_of drives rail)
  rail_sound h = record {
    drives = sample_drives;
    rail = ⊎_elim
        (λ (t : T under). inl (none_at N (reading stored) (reading drives) sample_wired refl (voltages drives (neg_ℤ (pos voltage_limit))) (voltages_drives _) (voltages_free _) (record { lt = t })))
        (λ (t : T full). inr (voltages drives (pos voltage_limit), top_at N (reading stored) (reading drives) sample_wired refl (voltages drives (pos voltage_limit)) (voltages_drives _) (voltages_free _) (record { le = t }), record { node = suc c.driven; free = omega arith; top = voltages_free _ }))
        (or_either under full (each (result_tests c stored drives rail) h 0));
  }
    where
      under : Bool
      under = lt_z (pos 0) (net_at c stored drives (neg_ℤ (pos voltage_limit)))

      full : Bool
      full = le_z (net_at c stored drives (pos voltage_limit)) (pos 0)

bound_sound : (c : Circuit) (B : ℕ) → T (passes (bound c (suc B))) → LeastEnough (network_of c) 0 (suc B)
bound_sound c B h = record {
  enough = λ i f. let e : i ≡ node = omega arith in rw e (omega (arith, leb→le S (suc B * H) (each tests h 0)));
  least = λ B₂ enough. ⊎_elim
      (λ (l : suc B ≤ B₂). l)
      (λ (l : B₂ < suc B). absurd (omega (arith, enough node (omega arith), ltb→lt (B * H) S (each tests h 1), mul-le-mul {n₁ = B₂} {m₁ = H} {n₂ = B} {m₂ = H} (omega arith) (le_refl H))))
      (decide_n (suc B) B₂);
}
  where
    node : ℕ
    node = suc c.driven

    S : ℕ
    S = steepest (network_of c) node

    H : ℕ
    H = held (network_of c) node

    tests : List Bool
    tests = leb S (suc B * H) ∷ ltb (B * H) S ∷ []

result_sound : (c : Circuit) (stored drives : List ℤ) (r : Result) → T (all_of (sample_tests c drives)) → T (all_of (result_tests c stored drives r)) → Gives (network_of c) (reading stored) (reading drives) (outcome_of drives r)
result_sound c stored drives (settles z after) ok h = settles_sound c stored drives ok z after h
result_sound c stored drives rail ok h = rail_sound c stored drives ok h

sound : (c : Case) → T (passes c) → Holds c
sound (sample c stored drives n r) h =
    let result = all_of (result_tests c stored drives r) in
    let number = eqb (number_of (answer_of (outcome_of drives r))) n in
    let k = and_both (all_of (sample_tests c drives)) (result && number) h in
    let m = and_both result number k.1 in
    (result_sound c stored drives r k.0 m.0, eqb→eq (number_of (answer_of (outcome_of drives r))) n m.1)
sound (bound c zero) h = absurd h
sound (bound c (suc B)) h = bound_sound c B h

all_sound : (cs : List Case) → T (all_pass cs) → AllHold cs
all_sound [] h = tt
all_sound (c ∷ cs) h = let k = and_both (passes c) (all_pass cs) h in (sound c k.0, all_sound cs k.1)

pub proved_cases : AllHold cases
unfolding cases ramp current leaving net lower higher sum total advance next conductance_of greatest steepest_of held_by_branch steepest_by held steepest
proved_cases = all_sound cases tt
