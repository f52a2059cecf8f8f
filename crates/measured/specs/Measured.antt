-- From measured pairs to a curve: document 02, request 1. A list of pairs is two lists, voltages `volts` in microvolts and currents `amps` in
-- femtoamperes, and pair j is number j of both. Its limits of a voltage and of a slope are those that network has for a curve. Assumes nothing.
use Rattle.std.specs.Prelude.{Bool, ◌&&◌, cond, List, ℕ, zero, suc, ◌+◌, ◌*◌, ◌-◌, ◌/◌, ◌^◌, eqb, leb, ℤ, pos, nat_abs, length, Result, Ok, Err}
use Rattle.std.specs.Int.Signed.{le_z, lt_z}
use Rattle.units.specs.Table.{padded, between, every}
use Rattle.network.specs.Network.{reading, conductance_limit, breakpoint_limit, breakpoint_count_limit}
use Rattle.image.specs.declared.parts.Curve.{Curve}
use Rattle.measured.specs.declared.drawing.Refusal.{Refusal}
use Rattle.measured.specs.declared.drawing.Refusal.TheVariants.{Pairs, Slope}

-- how many pairs a list may have, and how large a current may be
abbrev pub fewest_pairs : ℕ
fewest_pairs = 2

abbrev pub most_pairs : ℕ
most_pairs = suc breakpoint_count_limit

abbrev pub current_limit : ℕ
current_limit = 2 ^ 56

-- ---- 12: the rules of the pairs

-- the pair after pair j has a higher voltage, and a current that has not fallen, both within their limits
unfoldable pub follows : List ℤ → List ℤ → ℕ → Bool
follows volts amps j =
    lt_z (reading volts j) (reading volts (suc j))
    && le_z (reading volts (suc j)) (pos breakpoint_limit)
    && le_z (reading amps j) (reading amps (suc j))
    && le_z (reading amps (suc j)) (pos current_limit)

-- how large a number of a list is: all of a list that keeps the rules are zero or above
abbrev pub size_at : List ℤ → ℕ → ℕ
size_at l j = nat_abs (reading l j)

-- there are as many voltages as currents, and 2 to 17 of them
abbrev pub count_fits : List ℤ → List ℤ → Bool
count_fits volts amps = eqb (length volts) (length amps) && between fewest_pairs most_pairs (length volts)

-- besides, the first pair is zero and zero, and each of the others follows the one before it
unfoldable pub pairs_fit : List ℤ → List ℤ → Bool
pairs_fit volts amps =
    count_fits volts amps
    && eqb (size_at volts 0) 0
    && eqb (size_at amps 0) 0
    && every (follows volts amps) (length volts - 1)

-- ---- the curve

-- microvolts from pair j to the next
abbrev pub width_after : List ℤ → ℕ → ℕ
width_after volts j = size_at volts (suc j) - size_at volts j

-- the largest whole slope that, over this width and counted from one current, does not pass the other
abbrev pub largest : (from to width : ℕ) → ℕ
largest from to width = (to - from) / width

-- that from pair j to the next, counted from this current
abbrev pub slope_from : List ℤ → List ℤ → ℕ → ℕ → ℕ
slope_from volts amps from j = largest from (size_at amps (suc j)) (width_after volts j)

-- the current that the curve has reached at pair j: from one pair to the next it rises by the slope times the width
unfoldable pub reached : List ℤ → List ℤ → ℕ → ℕ
reached volts amps zero = 0
reached volts amps (suc j) = reached volts amps j + slope_from volts amps (reached volts amps j) j * width_after volts j

-- slope 0 holds below zero volts; the others end at pair 1, pair 2 and so on, and the last goes on
unfoldable pub slope_at : List ℤ → List ℤ → ℕ → ℕ
slope_at volts amps zero = 0
slope_at volts amps (suc j) = slope_from volts amps (reached volts amps j) j

-- the breakpoints are the voltages of all pairs but the last
unfoldable pub curve_of : List ℤ → List ℤ → Curve
curve_of volts amps = record {
  count = length volts - 1;
  slopes = padded 0 (suc breakpoint_count_limit) (slope_at volts amps) (length volts);
  breakpoints = padded (pos 0) breakpoint_count_limit (reading volts) (length volts - 1);
}

-- 13: no slope is too large
abbrev pub slope_small : List ℤ → List ℤ → ℕ → Bool
slope_small volts amps j = leb (slope_at volts amps j) conductance_limit

unfoldable pub slopes_fit : List ℤ → List ℤ → Bool
slopes_fit volts amps = every (slope_small volts amps) (length volts)

-- ---- the answer

-- document 02's number of a refusal
abbrev pub number_of : Refusal → ℕ
number_of Pairs = 12
number_of Slope = 13

-- that of what a list came to: 0 for a curve
abbrev pub answer_number : Result Curve Refusal → ℕ
answer_number (Ok c) = 0
answer_number (Err refusal) = number_of refusal

-- the curve of a list, 13 if one of its slopes is too large, and before that 12 if its pairs break a rule
abbrev pub drawn : List ℤ → List ℤ → Result Curve Refusal
drawn volts amps = cond (slopes_fit volts amps) (Ok (curve_of volts amps)) (Err Slope)

unfoldable pub measured : List ℤ → List ℤ → Result Curve Refusal
measured volts amps = cond (pairs_fit volts amps) (drawn volts amps) (Err Pairs)
