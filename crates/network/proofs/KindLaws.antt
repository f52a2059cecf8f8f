-- The kinds and their numbers. Assumes nothing.
use mathlib.Core.Path.{◌≡◌, refl}
use mathlib.Core.Bool.{Bool, true, false, cond}
use Rattle.std.specs.Prelude.{ℕ, Some, None, eqb}
use borrow.Author.Tests.{eqb-true}
use Rattle.network.specs.Kind.{number_of, kind_of}
use Rattle.network.specs.declared.kind.Kind.{Kind}
use Rattle.network.specs.declared.kind.Kind.TheVariants.{Resistor, Capacitor, Inductor, Diode}

module _ (k : ℕ) (x : Kind) where
  by : (a b c d : Bool) → eqb k 1 ≡ a → eqb k 2 ≡ b → eqb k 3 ≡ c → eqb k 4 ≡ d → cond a (Some Resistor) (cond b (Some Capacitor) (cond c (Some Inductor) (cond d (Some Diode) None))) ≡ Some x → k ≡ number_of x
  by true b c d ea eb ec ed e = let is : Resistor ≡ x = cc in rw (← is) (eqb-true k 1 ea)
  by false true c d ea eb ec ed e = let is : Capacitor ≡ x = cc in rw (← is) (eqb-true k 2 eb)
  by false false true d ea eb ec ed e = let is : Inductor ≡ x = cc in rw (← is) (eqb-true k 3 ec)
  by false false false true ea eb ec ed e = let is : Diode ≡ x = cc in rw (← is) (eqb-true k 4 ed)
  by false false false false ea eb ec ed e = cc

  -- the number that a kind is of is the kind's own
  pub kind_number : kind_of k ≡ Some x → k ≡ number_of x
  kind_number e = by (eqb k 1) (eqb k 2) (eqb k 3) (eqb k 4) refl refl refl refl e
