use mathlib.Core.Path.{◌≡◌}
use Prim.Native.Nat.{ℕ}
use Rattle.units.specs.Table.{padded}
use Rattle.image.specs.Parts.{no_curve}
use Rattle.image.specs.Curve.{curve_bytes, curve_in, start_from}
use Rattle.image.proofs.curve.curves_at.Given as goal

-- `image::curve::curves_at` meets its contract. The loop stands at the start of curve k, and the array is the padded table as far as that. Assumes nothing.
abbrev pub invariant-loop-k : goal.invariant-loop-k
invariant-loop-k l = record {
  start : l.at ≡ start_from l.image l.first l.k;
  filled : l.curves ≡ padded no_curve 8 (λ (k : ℕ). curve_in (curve_bytes l.image (start_from l.image l.first k))) l.k;
}
