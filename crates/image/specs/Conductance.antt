-- The conductance of an element in nanosiemens, a rule for each kind, to the nearest whole number, halves upward; and rule 6. Assumes nothing.
use Rattle.std.specs.Prelude.{Bool, ◌||◌, cond, ℕ, ◌*◌, ◌^◌, eqb}
use Rattle.units.specs.Ratio.{nearest_ratio}
use Rattle.units.specs.Table.{between, every}
use Rattle.network.specs.Network.{conductance_limit}
use Rattle.network.specs.Kind.{resistor_kind, capacitor_kind, inductor_kind, has_curve}
use Rattle.image.specs.Parts.{element_of}
use Rattle.image.specs.Setting.{Setting}
use Rattle.image.specs.declared.parts.Parts.{Parts}

-- from ohms
abbrev pub resistor_conductance : ℕ → ℕ
resistor_conductance ohms = nearest_ratio (10 ^ 9) ohms

-- from picofarads, at a sample rate
abbrev pub capacitor_conductance : ℕ → ℕ → ℕ
capacitor_conductance picofarads rate = nearest_ratio (2 * picofarads * rate) 1000

-- from microhenries, at a sample rate
abbrev pub inductor_conductance : ℕ → ℕ → ℕ
inductor_conductance microhenries rate = nearest_ratio (10 ^ 15) (2 * microhenries * rate)

-- by the kind; a diode has none
unfoldable pub conductance_by : (kind value rate : ℕ) → ℕ
conductance_by kind value rate =
    cond (eqb kind resistor_kind) (resistor_conductance value)
    (cond (eqb kind capacitor_kind) (capacitor_conductance value rate)
    (cond (eqb kind inductor_kind) (inductor_conductance value rate) 0))

-- that of element j, at a setting
abbrev pub conductance_at : Parts → Setting → ℕ → ℕ
conductance_at parts setting j = conductance_by (element_of parts j).kind (element_of parts j).value parts.rate

-- 6: an element's conductance, where its current goes by one
abbrev pub conductance_fits : (kind g : ℕ) → Bool
conductance_fits kind g = has_curve kind || between 1 conductance_limit g

unfoldable pub conductances_fit : Parts → Setting → Bool
conductances_fit parts setting = every (λ (j : ℕ). conductance_fits (element_of parts j).kind (conductance_at parts setting j)) parts.element_count
