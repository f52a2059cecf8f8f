-- What document 02 says of the curve of a measured list, in its own words and with network's current. Assumes nothing.
use Rattle.std.specs.Prelude.{◌≡◌, List, ℕ, suc, ◌*◌, ◌<◌, ℤ, pos, ◌+ℤ◌, length, get_or, ◌≤ℤ◌, ◌<ℤ◌}
use Rattle.network.specs.Network.{curve, current, reading}
use Rattle.image.specs.Parts.{slopes_of, breakpoints_of}
use Rattle.image.specs.declared.parts.Curve.{Curve}
use Rattle.measured.specs.Measured.{width_after}

-- the current of a curve at a voltage: network's, in whole femtoamperes
abbrev pub current_at : Curve → ℤ → ℤ
current_at c v = current 1 (curve (slopes_of c) (breakpoints_of c)) (pos 0) v

-- c is a curve through or below the pairs: pair j and the next bound a stretch, whose slope is number j + 1
pub record Through (volts amps : List ℤ) (c : Curve) : Type 0 where
  -- the breakpoints are the voltages of all pairs but the last, so that the last stretch's slope goes on
  pub many : suc c.count ≡ length volts
  pub breakpoints : (j : ℕ) → j < c.count → reading c.breakpoints j ≡ reading volts j
  -- zero slope below zero volts
  pub below : get_or c.slopes 0 0 ≡ 0
  -- no stretch passes the next measured current, and with a slope larger by one it would, counted from the current already reached
  pub at_most : (j : ℕ) → j < c.count → current_at c (reading volts (suc j)) ≤ℤ reading amps (suc j)
  pub largest : (j : ℕ) → j < c.count → reading amps (suc j) <ℤ (current_at c (reading volts j) +ℤ pos (suc (get_or c.slopes (suc j) 0) * width_after volts j))
  -- at each pair after the first it falls short by less than the stretch's width
  pub short : (j : ℕ) → j < c.count → reading amps (suc j) <ℤ (current_at c (reading volts (suc j)) +ℤ pos (width_after volts j))
