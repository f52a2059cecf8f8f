use mathlib.Core.Path.{◌≡◌, refl, sym, ◌∙◌}
use mathlib.Core.Bool.{Bool, true, false, cond}
use Prim.Native.Nat.{ℕ}
use lib.Dec.{eqb}
use Rattle.std.specs.Prelude.{Option, Some, None}
use Rattle.network.specs.Kind.{kind_of}
use Rattle.network.specs.declared.kind.Kind.{Kind}
use Rattle.network.specs.declared.kind.Kind.TheVariants.{Resistor, Capacitor, Inductor, Diode}
use Rattle.image.specs.Conductance.{resistor_conductance, capacitor_conductance, inductor_conductance, conductance_by}
use Rattle.image.proofs.conductances.conductance.Goals as goal

module _ (kind value rate : ℕ) where
  abbrev by : Option Kind → ℕ
  by (Some Resistor) = resistor_conductance value
  by (Some Capacitor) = capacitor_conductance value rate
  by (Some Inductor) = inductor_conductance value rate
  by (Some Diode) = 0
  by None = 0

  -- the conductance goes by the kind that the number is of
  of_kind : (k : Option Kind) → kind_of kind ≡ k → conductance_by kind value rate ≡ by k
  unfolding conductance_by
  of_kind k e = rw e at (go (eqb kind 1) (eqb kind 2) (eqb kind 3) (eqb kind 4))
    where
      go : (a b c d : Bool) → cond a (resistor_conductance value) (cond b (capacitor_conductance value rate) (cond c (inductor_conductance value rate) 0)) ≡ by (cond a (Some Resistor) (cond b (Some Capacitor) (cond c (Some Inductor) (cond d (Some Diode) None))))
      go true b c d = refl
      go false true c d = refl
      go false false true d = refl
      go false false false true = refl
      go false false false false = refl

pub returns-in-Some-Resistor : goal.returns-in-Some-Resistor
returns-in-Some-Resistor c = c.resistor.ensures ∙ sym (of_kind _ _ _ (Some Resistor) (rw c.in-Some-Resistor.field-0-is at (sym c.of.ensures ∙ c.in-Some-Resistor.is)))

pub returns-in-Some-Capacitor : goal.returns-in-Some-Capacitor
returns-in-Some-Capacitor c = c.capacitor.ensures ∙ sym (of_kind _ _ _ (Some Capacitor) (rw c.in-Some-Capacitor.field-0-is at (sym c.of.ensures ∙ c.in-Some-Capacitor.is)))

pub returns-in-Some-Inductor : goal.returns-in-Some-Inductor
returns-in-Some-Inductor c = c.inductor.ensures ∙ sym (of_kind _ _ _ (Some Inductor) (rw c.in-Some-Inductor.field-0-is at (sym c.of.ensures ∙ c.in-Some-Inductor.is)))

pub returns-in-Some-Diode : goal.returns-in-Some-Diode
returns-in-Some-Diode c = sym (of_kind _ _ _ (Some Diode) (rw c.in-Some-Diode.field-0-is at (sym c.of.ensures ∙ c.in-Some-Diode.is)))

pub returns-in-None : goal.returns-in-None
returns-in-None c = sym (of_kind _ _ _ None (sym c.of.ensures ∙ c.in-None.is))
