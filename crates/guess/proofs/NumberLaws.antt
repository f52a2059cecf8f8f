-- An f64 that is rounded to a voltage is in range. Assumes nothing.
use Rattle.std.proofs.Common.{Some, None, ◌≡◌, ℕ, ◌*◌, Bool, true, false, cond, ℤ, nat_abs, refl, arith, leb-true}
use lib.Ieee.{Float, nan, inf, fin, up, down}
use Rattle.units.specs.Voltage.{within, voltage_limit, InRange}
use Rattle.units.specs.Ratio.{nearest_ratio}
use Rattle.units.specs.Float.{nearest_voltage, signed, rounded}
use Rattle.units.specs.declared.voltage.Voltage.{Voltage}

-- what an f64 is nearest to is in range
rounded_ranged : (z : ℤ) (v : Voltage) → rounded z ≡ Some v → InRange v.microvolts
rounded_ranged z v e = go (within voltage_limit z) refl e
  where
    go : (b : Bool) → within voltage_limit z ≡ b → cond b (Some (record { microvolts = z })) None ≡ Some v → InRange v.microvolts
    go true inside is = let same : z ≡ v.microvolts = cc in rw same at (leb-true (nat_abs z) voltage_limit inside)
    go false inside is = let z : ◌≡◌ {A = ℕ} 0 1 = cc in absurd (omega arith)

pub nearest_ranged : (x : Float) (v : Voltage) → nearest_voltage x ≡ Some v → InRange v.microvolts
unfolding nearest_voltage
nearest_ranged nan v e = let z : ◌≡◌ {A = ℕ} 0 1 = cc in absurd (omega arith)
nearest_ranged (inf s) v e = let z : ◌≡◌ {A = ℕ} 0 1 = cc in absurd (omega arith)
nearest_ranged (fin s m e) v is = rounded_ranged (signed s (nearest_ratio (m * up e) (down e))) v is
