-- There is a greatest legal low assignment if there is any; so every sample has an outcome. Assumes nothing.
use mathlib.Core.Path.{◌≡◌, refl}
use mathlib.Core.Bool.{cond}
use mathlib.Core.Logic.{◌⊎◌, inl, inr, ⊎_elim}
use Prim.Native.Nat.{ℕ, zero, suc, ◌≤◌, ◌<◌}
use native.Mathlib.Omega.{arith}
use native.Mathlib.Nat.{le_refl}
use lib.Dec.{leb}
use borrow.Author.Tests.{le-leb, lt-leb}
use lib.IntN.{ℤ, pos, nat_abs, ◌-ℤ◌, ◌*ℤ◌}
use lib.Signed.{◌≤ℤ◌, ◌<ℤ◌}
use Rattle.units.specs.Voltage.{voltage_limit, drive_limit, bottom}
use Rattle.units.proofs.Integers.{signs, sub_law, pos_law, abs_law, decide, decide_n}
use Rattle.network.specs.Network.{Network, Free, net, next, Wired, stored_limit}
use Rattle.network.specs.Sample.{Drives, Legal, Low, Answer, Empty, AtTop, BelowTop, Outcome, accepted, driveRefused, railRefused, storedRefused, DrivesLegal, Gives}
use Rattle.network.specs.Search.{Settling, lowered, height}
use Rattle.network.proofs.Nodes.{find}
use Rattle.network.proofs.Hold.{top_start}
use Rattle.network.proofs.Lowering.{lowered_here, lowered_under, lowered_none}
use Rattle.network.proofs.Settle.{settling_start, settled_answer, none_empty, step_settling, step_none}
use Rattle.network.proofs.Measures.{height_falls}

-- the drives, and every free node at the top
top_of : Network → (ℕ → ℤ) → ℕ → ℤ
top_of N d zero = pos 0
top_of N d (suc j) = cond (leb (suc j) N.driven) (pos 1 *ℤ d j) (pos voltage_limit)

top_drives : (N : Network) (d : ℕ → ℤ) → Drives 1 N d (top_of N d)
unfolding top_of
top_drives N d = record { ground = refl; driven = λ j l. rw (le-leb (suc j) N.driven l) }

top_free : (N : Network) (d : ℕ → ℤ) (i : ℕ) → Free N i → top_of N d i ≡ pos voltage_limit
unfolding top_of
top_free N d zero f = absurd (omega arith)
top_free N d (suc i) f = rw (lt-leb (suc i) N.driven f.0)

module _ (N : Network) (x d : ℕ → ℤ) (wired : Wired N) where
  Settles : Type 0
  Settles = ((v : ℕ → ℤ) × Answer N x d v) ⊎ Empty N x d

  z : ℕ → ℤ
  z = top_of N d

  High : (ℕ → ℤ) → ℕ → Type 0
  High v i = Free N i × (pos 0 <ℤ net 1 N x v i)

  high_or_not : (v : ℕ → ℤ) (i : ℕ) → i < suc N.nodes → High v i ⊎ (Free N i → net 1 N x v i ≤ℤ pos 0)
  unfolding High
  high_or_not v i l = ⊎_elim
      (λ (f : i ≤ N.driven). inr (λ free. absurd (omega arith)))
      (λ (f : N.driven < i). ⊎_elim (λ (h : net 1 N x v i ≤ℤ pos 0). inr (λ free. h)) (λ (h : pos 0 <ℤ net 1 N x v i). inl ((f, omega arith), h)) (decide (net 1 N x v i) (pos 0)))
      (decide_n i N.driven)

  -- one turn from the top downwards: done, or out of the range, or one node one lower
  turn : (v : ℕ → ℤ) → Settling N x d z v → ((u : ℕ → ℤ) → Settling N x d z u → height N u < height N v → Settles) → Settles
  unfolding Settles High z
  turn v s again = ⊎_elim
      (λ (f : (i : ℕ) × (i < suc N.nodes) × High v i). found f.0 f.2.0 (rw (lowered_none v f.0) f.2.1))
      (λ (low : (i : ℕ) → i < suc N.nodes → Free N i → net 1 N x v i ≤ℤ pos 0). inl (v, settled_answer N x d (top_of N d) v above (record { settling = s; low = λ i f. low i (omega arith) f })))
      (find (High v) (λ (i : ℕ). Free N i → net 1 N x v i ≤ℤ pos 0) (suc N.nodes) (high_or_not v))
    where
      above : (w : ℕ → ℤ) → Legal N d w → Low N x w → (j : ℕ) → j ≤ N.nodes → w j ≤ℤ top_of N d j
      above = top_start N x d (top_of N d) (top_drives N d) (top_free N d)

      found : (i : ℕ) → Free N i → pos 0 <ℤ net 1 N x (lowered v i 0) i → ((v : ℕ → ℤ) × Answer N x d v) ⊎ Empty N x d
      found i free high = ⊎_elim
          (λ (inside : bottom ≤ℤ (v i -ℤ pos 1)). again (lowered v i 1) (step_settling N x d (top_of N d) v s i 0 wired free high inside)
          (height_falls N (lowered v i 1) v i free.1 (λ j l. lowered_under v i 1 j) (omega (signs, lowered_here v i 1, sub_law (v i) (pos 1), pos_law 1)) (omega (signs, sub_law (v i) (pos 1), pos_law 1))))
          (λ (out : (v i -ℤ pos 1) <ℤ bottom). inr (none_empty N x d (top_of N d) above (step_none N x d (top_of N d) v s i 0 wired free high out)))
          (decide bottom (v i -ℤ pos 1))

  run : (fuel : ℕ) (v : ℕ → ℤ) → Settling N x d z v → height N v ≤ fuel → Settles
  run zero v s l = turn v s (λ u su less. absurd (omega arith))
  run (suc fuel) v s l = turn v s (λ u su less. run fuel u su (omega arith))

  -- "there is a greatest one if there is any"
  pub greatest_exists : ((v : ℕ → ℤ) × Answer N x d v) ⊎ Empty N x d
  unfolding Settles z
  greatest_exists = run (height N (top_of N d)) (top_of N d)
      (settling_start N x d (top_of N d) (record { drives = top_drives N d; range = λ i f. rw (top_free N d i f) (le_refl voltage_limit) })) (le_refl _)

  -- an answer is at the top or below it
  pub top_or_below : (v : ℕ → ℤ) → Legal N d v → AtTop N v ⊎ BelowTop N v
  top_or_below v legal = ⊎_elim
      (λ (t : (i : ℕ) × (i < suc N.nodes) × (Free N i × (v i ≡ pos voltage_limit))). inl (record { node = t.0; free = t.2.0; top = t.2.1 }))
      (λ (below : (i : ℕ) → i < suc N.nodes → Free N i → v i <ℤ pos voltage_limit). inr (λ i f. below i (omega arith) f))
      (find (λ (i : ℕ). Free N i × (v i ≡ pos voltage_limit)) (λ (i : ℕ). Free N i → v i <ℤ pos voltage_limit) (suc N.nodes) each)
    where
      each : (i : ℕ) → i < suc N.nodes → (Free N i × (v i ≡ pos voltage_limit)) ⊎ (Free N i → v i <ℤ pos voltage_limit)
      each i l = ⊎_elim
          (λ (f : i ≤ N.driven). inr (λ free. absurd (omega arith)))
          (λ (f : N.driven < i). ⊎_elim
          (λ (h : pos voltage_limit ≤ℤ v i). inl ((f, omega arith), omega (signs, legal.range i (f, omega arith), abs_law (v i), pos_law voltage_limit)))
          (λ (h : v i <ℤ pos voltage_limit). inr (λ free. h)) (decide (pos voltage_limit) (v i)))
          (decide_n i N.driven)

  -- every sample has an outcome
  pub some_outcome : (o : Outcome) × Gives N x d o
  some_outcome = ⊎_elim
      (λ (r : (j : ℕ) × (j < N.driven) × (drive_limit < nat_abs (d j))). (driveRefused, record { drive = r.0; there = r.1; beyond = r.2 }))
      (λ (legal : DrivesLegal N d). ⊎_elim
      (λ (a : (v : ℕ → ℤ) × Answer N x d v). with_answer legal a.0 a.1)
      (λ (none : Empty N x d). (railRefused, record { drives = legal; rail = inl none }))
      greatest_exists)
      (find (λ (j : ℕ). drive_limit < nat_abs (d j)) (λ (j : ℕ). nat_abs (d j) ≤ drive_limit) N.driven (λ j l. ⊎_elim (λ (h : nat_abs (d j) ≤ drive_limit). inr h) (λ (h : drive_limit < nat_abs (d j)). inl h) (decide_n (nat_abs (d j)) drive_limit)))
    where
      with_answer : DrivesLegal N d → (v : ℕ → ℤ) → Answer N x d v → (o : Outcome) × Gives N x d o
      with_answer legal v a = ⊎_elim
          (λ (t : AtTop N v). (railRefused, record { drives = legal; rail = inr (v, a, t) }))
          (λ (below : BelowTop N v). ⊎_elim
          (λ (r : (j : ℕ) × (j < N.count) × (stored_limit < nat_abs (next N x v j))). (storedRefused, record { drives = legal; voltages = v; answer = a; below = below; branch = r.0; there = r.1; beyond = r.2 }))
          (λ (kept : (j : ℕ) → j < N.count → nat_abs (next N x v j) ≤ stored_limit). (accepted v (next N x v), record { drives = legal; answer = a; below = below; stored = λ j l. refl; kept = kept }))
          (find (λ (j : ℕ). stored_limit < nat_abs (next N x v j)) (λ (j : ℕ). nat_abs (next N x v j) ≤ stored_limit) N.count (λ j l. ⊎_elim (λ (h : nat_abs (next N x v j) ≤ stored_limit). inr h) (λ (h : stored_limit < nat_abs (next N x v j)). inl h) (decide_n (nat_abs (next N x v j)) stored_limit))))
          (top_or_below v a.legal)
