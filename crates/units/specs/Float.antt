-- A voltage and an f64. A finite float is `fin negative m e`, exactly m * 2 ^ e in size; `up e` and `down e` are that power's
-- numerator and denominator. Assumes nothing.
use Rattle.std.specs.Prelude.{◌≡◌, ℕ, suc, ◌*◌, ◌^◌, ◌<◌, Bool, true, false, cond, ℤ, pos, negsuc, neg_ℤ, Float, Option, Some, None}
use Rattle.std.specs.Float.{nan, inf, fin, binary64}
use Rattle.std.specs.Float.Ieee.{up, down, of_int}
use Rattle.std.specs.Float.Ieee.Exact.{HasValue}
use Rattle.units.specs.Ratio.{nearest_ratio}
use Rattle.units.specs.Voltage.{within, voltage_limit, InRange}
use Rattle.units.specs.declared.voltage.Voltage.{Voltage}

-- x is exactly the whole number z
abbrev pub Exactly : Float → ℤ → Type 0
Exactly x (pos n) = HasValue x false n 1
Exactly x (negsuc n) = HasValue x true (suc n) 1

-- x is the f64 nearest to z, and z itself where z is a voltage in range
pub record Converted (z : ℤ) (x : Float) : Type 0 where
  pub nearest : x ≡ of_int binary64 z
  pub exact : InRange z → Exactly x z

abbrev pub signed : Bool → ℕ → ℤ
signed true n = neg_ℤ (pos n)
signed false n = pos n

-- a whole number as a voltage, where it is in range
abbrev pub rounded : ℤ → Option Voltage
rounded z = cond (within voltage_limit z) (Some (record { microvolts = z })) None

-- the nearest voltage, halves away from zero; none for a NaN, an infinity or a result out of range
unfoldable pub nearest_voltage : Float → Option Voltage
nearest_voltage nan = None
nearest_voltage (inf s) = None
nearest_voltage (fin s m e) = rounded (signed s (nearest_ratio (m * up e) (down e)))

-- ---- what the code's one step asks and gives

-- above zero, and below 2 ^ 62
abbrev pub Positive : Float → Type 0
Positive nan = ⊥
Positive (inf s) = ⊥
Positive (fin s m e) = (s ≡ false) × (m * up e < 2 ^ 62 * down e)

-- a float's size to the nearest whole number
unfoldable pub nearest_size : Float → ℤ
nearest_size nan = pos 0
nearest_size (inf s) = pos 0
nearest_size (fin s m e) = pos (nearest_ratio (m * up e) (down e))
