-- The kinds of element, by document 01's numbers, and what each is as a branch. Assumes nothing.
use Rattle.std.specs.Prelude.{Bool, ◌||◌, cond, ℕ, eqb, Option, Some, None}
use Rattle.network.specs.Network.{Store, nothing, capacitor, inductor}
use Rattle.network.specs.declared.kind.Kind.{Kind}
use Rattle.network.specs.declared.kind.Kind.TheVariants.{Resistor, Capacitor, Inductor, Diode}

abbrev pub resistor_kind : ℕ
resistor_kind = 1

abbrev pub capacitor_kind : ℕ
capacitor_kind = 2

abbrev pub inductor_kind : ℕ
inductor_kind = 3

abbrev pub diode_kind : ℕ
diode_kind = 4

-- the number of each kind, and the kind that has a number, if one does
abbrev pub number_of : Kind → ℕ
number_of Resistor = resistor_kind
number_of Capacitor = capacitor_kind
number_of Inductor = inductor_kind
number_of Diode = diode_kind

abbrev pub kind_of : ℕ → Option Kind
kind_of number =
    cond (eqb number resistor_kind) (Some Resistor)
    (cond (eqb number capacitor_kind) (Some Capacitor)
    (cond (eqb number inductor_kind) (Some Inductor)
    (cond (eqb number diode_kind) (Some Diode) None)))

-- whether its current follows a curve; that of any other goes by a conductance
abbrev pub has_curve : ℕ → Bool
has_curve kind = eqb kind diode_kind

-- whether it stores a current, and how
abbrev pub stores : ℕ → Bool
stores kind = eqb kind capacitor_kind || eqb kind inductor_kind

abbrev pub store_of : ℕ → Store
store_of kind = cond (eqb kind capacitor_kind) capacitor (cond (eqb kind inductor_kind) inductor nothing)
