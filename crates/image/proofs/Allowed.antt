-- Which values rule 6 lets pass: request 2's largest resistor, and that no inductor is too large and no capacitor too small. Assumes nothing.
use mathlib.Core.Path.{◌≡◌}
use mathlib.Core.Bool.{true}
use mathlib.Core.Logic.{◌↔◌}
use Prim.Native.Nat.{ℕ, zero, suc, ◌+◌, ◌*◌, ◌^◌, ◌≤◌, ◌<◌}
use native.Mathlib.Omega.{arith}
use native.Mathlib.Nat.{mul_assoc, mul-le-mul, le-div_iff_mul-le, div-lt_iff_lt-mul}
use borrow.Author.Tests.{le-leb}
use Rattle.units.specs.Table.{between}
use Rattle.units.proofs.Every.{between_says}
use Rattle.units.proofs.RatioLaws.{nearest_some}
use Rattle.network.specs.Network.{conductance_limit}
use Rattle.image.specs.Conductance.{resistor_conductance, capacitor_conductance, inductor_conductance}

pub resistor_allowed : (ohms : ℕ) → (between 1 conductance_limit (resistor_conductance ohms) ≡ true) ↔ ((1 ≤ ohms) × (ohms ≤ 2 * 10 ^ 9))
resistor_allowed ohms = (says ohms, allowed ohms)
  where
    says : (ohms : ℕ) → between 1 conductance_limit (resistor_conductance ohms) ≡ true → (1 ≤ ohms) × (ohms ≤ 2 * 10 ^ 9)
    says zero e = absurd (omega (arith, between_says 1 conductance_limit (resistor_conductance zero) e))
    says (suc n) e =
        let enough = (le-div_iff_mul-le {k = suc n * 2} (omega arith)).0 (between_says 1 conductance_limit (resistor_conductance (suc n)) e).0 in
        (omega arith, omega (arith, enough))

    allowed : (ohms : ℕ) → (1 ≤ ohms) × (ohms ≤ 2 * 10 ^ 9) → between 1 conductance_limit (resistor_conductance ohms) ≡ true
    allowed ohms h =
        let few : resistor_conductance ohms < conductance_limit + 1 = (div-lt_iff_lt-mul {k = ohms * 2} (omega arith)).1 (omega arith) in
        rw (le-leb 1 (resistor_conductance ohms) (nearest_some (10 ^ 9) ohms h.0 (omega arith)), le-leb (resistor_conductance ohms) conductance_limit (omega arith))

-- of an image's values and rates
pub capacitor_enough : (picofarads rate : ℕ) → 1 ≤ picofarads → 8000 ≤ rate → 1 ≤ capacitor_conductance picofarads rate
capacitor_enough picofarads rate v r =
    nearest_some (2 * picofarads * rate) 1000 (omega arith) (omega (arith, mul_assoc 2 picofarads rate, mul-le-mul {n₁ = 1} {m₁ = 8000} {n₂ = picofarads} {m₂ = rate} v r))

pub inductor_enough : (microhenries rate : ℕ) → 1 ≤ microhenries → microhenries < 2 ^ 32 → 1 ≤ rate → rate ≤ 192000 → 1 ≤ inductor_conductance microhenries rate
inductor_enough microhenries rate v w r s =
    nearest_some (10 ^ 15) (2 * microhenries * rate)
    (omega (arith, mul_assoc 2 microhenries rate, mul-le-mul {n₁ = 1} {m₁ = 1} {n₂ = microhenries} {m₂ = rate} v r))
    (omega (arith, mul_assoc 2 microhenries rate, mul-le-mul {n₁ = microhenries} {m₁ = rate} {n₂ = 4294967295} {m₂ = 192000} (omega arith) s))
