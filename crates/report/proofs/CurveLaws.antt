-- Sound parts have no curve that is too long to be written. Assumes nothing.
use mathlib.Core.Path.{refl}
use mathlib.Core.List.{[]}
use Prim.Native.Nat.{ℕ, ◌≤◌, ◌<◌}
use native.Mathlib.Omega.{arith}
use lib.ListN.{get_or}
use Rattle.units.proofs.Tables.{getD-alike, tabulate-length}
use Rattle.network.specs.Network.{reading, breakpoint_count_limit}
use Rattle.image.specs.Parts.{no_curve, curve_of, breakpoints_of}
use Rattle.image.specs.Sound.{Sound}
use Rattle.image.specs.declared.parts.Curve.{Curve}
use Rattle.image.specs.declared.parts.Parts.{Parts}
use Rattle.image.proofs.Places.{curve_there}

-- where the code reads curve k
pub curve_few : (parts : Parts) (k : ℕ) → Sound parts → k < parts.curve_count → (get_or parts.curves k (record { count = 0; slopes = []; breakpoints = [] })).count ≤ breakpoint_count_limit
unfolding breakpoints_of
curve_few parts k sound h = rw (getD-alike (λ (c : Curve). c.count) parts.curves k (record { count = 0; slopes = []; breakpoints = [] }) no_curve refl, ← curve_there parts k h) (omega (arith, (sound.curves k h).few, tabulate-length (reading (curve_of parts k).breakpoints) (curve_of parts k).count))
