-- What the loop over the stretches rests on. Assumes nothing.
use mathlib.Core.Path.{◌≡◌, refl, ◌∙◌}
use mathlib.Core.Bool.{true}
use mathlib.Core.List.{List}
use Prim.Native.Nat.{ℕ, suc, ◌+◌, ◌*◌, ◌≤◌, ◌<◌}
use native.Mathlib.Omega.{arith}
use lib.IntN.{ℤ}
use lib.ListN.{length, replicate}
use borrow.Author.Tests.{lt-leb}
use Rattle.units.specs.Table.{padded, every}
use Rattle.units.proofs.Tables.{padded_none, padded_rest}
use Rattle.units.proofs.Every.{every_none, every_more, every_fails}
use Rattle.network.specs.Network.{conductance_limit}
use Rattle.measured.specs.Measured.{current_limit, width_after, reached, slope_at, slope_small, curve_of, slopes_fit, drawn}
use Rattle.std.specs.Prelude.{Ok, Err}
use Rattle.measured.specs.declared.drawing.Refusal.TheVariants.{Slope}
use Rattle.measured.proofs.PairLaws.{PairsSay, reached_more, reached_most, amp_small}

module _ (volts amps : List ℤ) where
  -- the slope below zero volts stands there from the start
  pub first_slope : replicate 17 0 ≡ padded 0 17 (slope_at volts amps) 1
  unfolding slope_at
  first_slope = padded_none 0 17 (slope_at volts amps) ∙ padded_rest 0 17 (slope_at volts amps) 0 1 (omega arith) (omega arith) none
    where
      none : (i : ℕ) → 0 ≤ i → i < 1 → slope_at volts amps i ≡ 0
      none i l h =
          let e : i ≡ 0 = omega arith in
          rw e

  pub first_fits : every (slope_small volts amps) 1 ≡ true
  unfolding slope_at
  first_fits = every_more (slope_small volts amps) 0 (every_none (slope_small volts amps)) refl

  pub reached_none : 0 ≡ reached volts amps 0
  unfolding reached
  reached_none = refl

  -- all slopes fit, or one doesn't
  pub all_drawn : every (slope_small volts amps) (length volts) ≡ true → Ok (curve_of volts amps) ≡ drawn volts amps
  unfolding slopes_fit
  all_drawn e = rw e

  pub one_steep : (j : ℕ) → j < length volts → conductance_limit < slope_at volts amps j → Err Slope ≡ drawn volts amps
  unfolding slopes_fit
  one_steep j h l = rw (every_fails (slope_small volts amps) (length volts) j h (lt-leb (slope_at volts amps j) conductance_limit l))

  -- what is reached next fits 64 bits, and so does the way there
  module _ (say : PairsSay volts amps) (j : ℕ) (h : suc j < length volts) where
    pub way_small : reached volts amps j + slope_at volts amps (suc j) * width_after volts j ≤ current_limit
    way_small = omega (arith, reached_more volts amps j, reached_most volts amps say (suc j) h, amp_small volts amps say j h)
