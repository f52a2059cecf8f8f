-- A resistor's value has one reading, so that what the reader promises admits one outcome. Assumes nothing.
use mathlib.Core.Path.{◌≡◌, refl, ◌∙◌, ap}
use mathlib.Core.List.{List}
use Prim.Native.Nat.{ℕ}
use Rattle.std.specs.Prelude.{Option, Some, None}
use Rattle.ohms.specs.Worth.{Worth}
use Rattle.ohms.specs.Grammar.{Sum, most_open}
use Rattle.ohms.specs.Found.{Right}
use Rattle.ohms.specs.declared.reader.Found.{Found}
use Rattle.ohms.proofs.FactorLaws.{sum_reads}

-- a value has one end and comes to one thing
pub value_once : (text : List ℕ) (i j k : ℕ) (v w : Worth) → Sum text most_open i j v → Sum text most_open i k w → (j ≡ k) × (v ≡ w)
value_once text i j k v w a b = (sum_reads text most_open).once a b

abbrev found : ℕ → Worth → Found
found end worth = record { end = end; worth = worth }

-- the promise admits one outcome
pub one_outcome : (text : List ℕ) (i : ℕ) (r s : Option Found) → Right (Sum text most_open i) r → Right (Sum text most_open i) s → r ≡ s
one_outcome text i None None p q = refl
one_outcome text i None (Some s) p q = absurd (p s.end s.worth q)
one_outcome text i (Some r) None p q = absurd (q r.end r.worth p)
one_outcome text i (Some r) (Some s) p q =
    let same = value_once text i r.end s.end r.worth s.worth p q in
    ap (λ (end : ℕ). Some (found end r.worth)) same.0 ∙ ap (λ (worth : Worth). Some (found s.end worth)) same.1
