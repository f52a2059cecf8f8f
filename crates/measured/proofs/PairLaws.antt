-- What the rules of the pairs say where they hold, and what is reached then. Assumes nothing.
use mathlib.Core.Path.{◌≡◌, refl, sym}
use mathlib.Core.Bool.{true}
use mathlib.Core.List.{List}
use mathlib.Core.Logic.{⊎_elim}
use Prim.Native.Nat.{ℕ, zero, suc, ◌+◌, ◌*◌, ◌-◌, ◌≤◌, ◌<◌}
use native.Mathlib.Nat.{div-mul-le_self, lt-div-mul-add}
use native.Mathlib.Omega.{arith}
use lib.Dec.{eqb}
use lib.IntN.{ℤ, pos, nat_abs}
use lib.ListN.{length, get_or-eq_default}
use lib.Signed.{◌≤ℤ◌, ◌<ℤ◌, le_z, lt_z, yes_non_neg, pos-nat_abs}
use borrow.Author.Tests.{eqb-true}
use Rattle.units.specs.Table.{between, every}
use Rattle.units.proofs.Every.{both, between_says, every_says}
use Rattle.units.proofs.Integers.{signs, pos_law, abs_law, decide_n, le_z_true, lt_z_true}
use Rattle.network.specs.Network.{reading, breakpoint_limit}
use Rattle.measured.specs.Measured.{fewest_pairs, most_pairs, current_limit, follows, size_at, pairs_fit, width_after, reached, slope_at}

-- ---- the rules, one by one

-- what it says that a pair follows another
pub record FollowsSay (volts amps : List ℤ) (j : ℕ) : Type 0 where
  pub rises : reading volts j <ℤ reading volts (suc j)
  pub voltage : reading volts (suc j) ≤ℤ pos breakpoint_limit
  pub stays : reading amps j ≤ℤ reading amps (suc j)
  pub current : reading amps (suc j) ≤ℤ pos current_limit

follows_say : (volts amps : List ℤ) (j : ℕ) → follows volts amps j ≡ true → FollowsSay volts amps j
unfolding follows
follows_say volts amps j e =
    let a = both {b = le_z (reading amps (suc j)) (pos current_limit)} e in
    let b = both {b = le_z (reading amps j) (reading amps (suc j))} a.0 in
    let c = both {a = lt_z (reading volts j) (reading volts (suc j))} {b = le_z (reading volts (suc j)) (pos breakpoint_limit)} b.0 in
    record { rises = lt_z_true _ _ c.0; voltage = le_z_true _ _ c.1; stays = le_z_true _ _ b.1; current = le_z_true _ _ a.1 }

-- and that a list keeps the rules
pub record PairsSay (volts amps : List ℤ) : Type 0 where
  pub same : length volts ≡ length amps
  pub some : fewest_pairs ≤ length volts
  pub few : length volts ≤ most_pairs
  pub zero_volts : size_at volts 0 ≡ 0
  pub no_current : size_at amps 0 ≡ 0
  pub next : (j : ℕ) → suc j < length volts → FollowsSay volts amps j

pub pairs_say : (volts amps : List ℤ) → pairs_fit volts amps ≡ true → PairsSay volts amps
unfolding pairs_fit
pairs_say volts amps e =
    let a = both {b = every (follows volts amps) (length volts - 1)} e in
    let b = both {b = eqb (size_at amps 0) 0} a.0 in
    let c = both {b = eqb (size_at volts 0) 0} b.0 in
    let d = both {a = eqb (length volts) (length amps)} {b = between fewest_pairs most_pairs (length volts)} c.0 in
    let count = between_says fewest_pairs most_pairs (length volts) d.1 in
    record {
      same = eqb-true (length volts) (length amps) d.0;
      some = count.0;
      few = count.1;
      zero_volts = eqb-true (size_at volts 0) 0 c.1;
      no_current = eqb-true (size_at amps 0) 0 b.1;
      next = λ j h. follows_say volts amps j (every_says (follows volts amps) (length volts - 1) j a.1 (omega arith));
    }

-- ---- no number of such a list is below zero

-- a number from zero on is its size
sized : (z : ℤ) → pos 0 ≤ℤ z → z ≡ pos (nat_abs z)
sized z h = sym (pos-nat_abs z (yes_non_neg h))

-- a list that begins at zero and does not fall
climbs : (l : List ℤ) (n : ℕ) → size_at l 0 ≡ 0 → ((j : ℕ) → suc j < n → reading l j ≤ℤ reading l (suc j)) → (j : ℕ) → j < n → reading l j ≡ pos (size_at l j)
climbs l n first up zero h = sized (reading l 0) (omega (signs, abs_law (reading l 0), first, pos_law 0))
climbs l n first up (suc j) h =
    sized (reading l (suc j)) (omega (signs, climbs l n first up j (omega arith), up j h, pos_law 0, pos_law (size_at l j)))

pub reached_more : (volts amps : List ℤ) (j : ℕ) → reached volts amps (suc j) ≡ reached volts amps j + slope_at volts amps (suc j) * width_after volts j
unfolding reached slope_at
reached_more volts amps j = refl

module _ (volts amps : List ℤ) (say : PairsSay volts amps) where
  pub volt_size : (j : ℕ) → j < length volts → reading volts j ≡ pos (size_at volts j)
  volt_size = climbs volts (length volts) say.zero_volts (λ j h. omega (signs, (say.next j h).rises))

  pub amp_size : (j : ℕ) → j < length volts → reading amps j ≡ pos (size_at amps j)
  amp_size = climbs amps (length volts) say.no_current (λ j h. (say.next j h).stays)

  pub wider : (j : ℕ) → suc j < length volts → size_at volts j < size_at volts (suc j)
  wider j h = omega (signs, (say.next j h).rises, volt_size j (omega arith), volt_size (suc j) h, pos_law (size_at volts j), pos_law (size_at volts (suc j)))

  pub no_less : (j : ℕ) → suc j < length volts → size_at amps j ≤ size_at amps (suc j)
  no_less j h = omega (signs, (say.next j h).stays, amp_size j (omega arith), amp_size (suc j) h, pos_law (size_at amps j), pos_law (size_at amps (suc j)))

  -- where nothing stands a voltage reads as zero
  pub volt_small : (j : ℕ) → size_at volts j ≤ breakpoint_limit
  volt_small zero = omega (arith, say.zero_volts)
  volt_small (suc j) =
      ⊎_elim
      (λ (l : length volts ≤ suc j). rw (get_or-eq_default volts (pos 0) l) (omega arith))
      (λ (l : suc j < length volts). omega (signs, (say.next j l).voltage, volt_size (suc j) l, pos_law (size_at volts (suc j)), pos_law breakpoint_limit))
      (decide_n (length volts) (suc j))

  pub amp_small : (j : ℕ) → suc j < length volts → size_at amps (suc j) ≤ current_limit
  amp_small j h = omega (signs, (say.next j h).current, amp_size (suc j) h, pos_law (size_at amps (suc j)), pos_law current_limit)

  -- ---- what is reached

  pub reached_most : (j : ℕ) → j < length volts → reached volts amps j ≤ size_at amps j
  unfolding reached
  reached_most zero h = omega arith
  reached_most (suc j) h =
      let r = reached volts amps j in
      omega (arith, reached_most j (omega arith), no_less j h, div-mul-le_self (size_at amps (suc j) - r) (width_after volts j))

  -- a slope larger by one would pass the next measured current
  pub reached_next : (j : ℕ) → suc j < length volts → size_at amps (suc j) < reached volts amps (suc j) + width_after volts j
  unfolding reached
  reached_next j h =
      let r = reached volts amps j in
      omega (arith, reached_most j (omega arith), no_less j h, wider j h, lt-div-mul-add {a = size_at amps (suc j) - r} {b = width_after volts j} (omega (arith, wider j h)))
