use mathlib.Core.Path.{◌≡◌}
use mathlib.Core.Bool.{true}
use Prim.Native.Nat.{ℕ}
use Rattle.units.specs.Table.{every}
use Rattle.image.specs.Curve.{curve_bytes, padding_fits, start_from}
use Rattle.image.proofs.curve.paddings_fit.Given as goal

-- `image::curve::paddings_fit` meets its contract. The loop stands at the start of a curve, and the padding of every curve before it is zero. Assumes nothing.
abbrev pub invariant-loop : goal.invariant-loop
invariant-loop l = record {
  start : l.at ≡ start_from l.image l.first l.counter;
  zero : every (λ (k : ℕ). padding_fits (curve_bytes l.image (start_from l.image l.first k))) l.counter ≡ true;
}
