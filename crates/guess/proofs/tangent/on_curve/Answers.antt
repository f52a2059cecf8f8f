use Rattle.std.proofs.Common.{ℕ, ◌+◌, ◌<◌, List, ℤ, arith, w64, to_z, of_z}
use Rattle.stretch.specs.Stretch.{rows, breakpoints_in, stretch_of, CurveReady}
use Rattle.stretch.proofs.CurveLaws.{stretch_few}
use Rattle.guess.proofs.tangent.on_curve.Goals as goal

-- the row of the stretch that v lies in is in the table
row_there : {stretches : List ℤ} {first m : ℕ} (v : ℤ) → CurveReady stretches first m → first + stretch_of (breakpoints_in stretches first m) v < rows
row_there {stretches} {first} {m} v ready = omega (arith, stretch_few stretches first m ready v, ready.there)

pub overflow_add-row : goal.overflow_add-row
overflow_add-row c = record { fits = omega (arith, c.stretch.ensures, row_there (to_z w64 (of_z w64 c.args.v)) c.requires) }

pub slope-requires : goal.slope-requires
slope-requires c = omega (arith, c.stretch.ensures, row_there (to_z w64 (of_z w64 c.args.v)) c.requires)

pub at_zero-requires : goal.at_zero-requires
at_zero-requires c = omega (arith, c.stretch.ensures, row_there (to_z w64 (of_z w64 c.args.v)) c.requires)
