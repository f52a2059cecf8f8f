-- A voltage brought into range is in range, and one that is there stays. Assumes nothing.
use Rattle.std.proofs.Common.{◌≡◌, Bool, true, false, cond, ℤ, pos, neg_ℤ, nat_abs, refl, arith, le-leb, leb-true}
use lib.Signed.{lt_z}
use Rattle.units.specs.Voltage.{within, voltage_limit, InRange, clamped}

pub clamped_ranged : (v : ℤ) → InRange (clamped v)
unfolding clamped
clamped_ranged v = go (within voltage_limit v) refl (lt_z v (pos 0))
  where
    go : (b : Bool) → within voltage_limit v ≡ b → (s : Bool) → InRange (cond b v (cond s (neg_ℤ (pos voltage_limit)) (pos voltage_limit)))
    go true e s = leb-true _ _ e
    go false e true = omega arith
    go false e false = omega arith

pub clamped_same : (v : ℤ) → InRange v → clamped v ≡ v
unfolding clamped
clamped_same v inside = rw (le-leb (nat_abs v) voltage_limit inside)
