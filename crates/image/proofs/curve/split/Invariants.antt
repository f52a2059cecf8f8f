use mathlib.Core.Path.{◌≡◌}
use mathlib.Core.Bool.{true}
use Prim.Native.Nat.{ℕ}
use Rattle.units.specs.Table.{every}
use Rattle.image.specs.Parts.{curve_size_fits}
use Rattle.image.specs.Curve.{breakpoints_at, start_from}
use Rattle.image.proofs.curve.split.Given as goal

-- `image::curve::split` meets its contract. The loop stands at the start of a curve, and every curve before it has a size in range. Assumes nothing.
abbrev pub invariant-loop : goal.invariant-loop
invariant-loop l = record {
  start : l.at ≡ start_from l.image l.first l.counter;
  sized : every (λ (k : ℕ). curve_size_fits (breakpoints_at l.image (start_from l.image l.first k))) l.counter ≡ true;
}
