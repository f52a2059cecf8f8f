-- What the readers of a value answer. Assumes nothing.
use Rattle.std.specs.Prelude.{List, ℕ, Option, Some, None}
use Rattle.ohms.specs.Worth.{Worth}
use Rattle.ohms.specs.Grammar.{Factor, Parallel}
use Rattle.ohms.specs.declared.reader.Found.{Found}
use Rattle.ohms.specs.declared.stages.Sign.{Sign}
use Rattle.ohms.specs.declared.stages.Sign.TheVariants.{Plus, Bars}

-- an answer is right: what was found stands there, and nothing was found only if nothing does
abbrev pub Right : (ℕ → Worth → Type 0) → Option Found → Type 0
Right Stands None = (j : ℕ) (w : Worth) → Stands j w → ⊥
Right Stands (Some found) = Stands found.end found.worth

-- ---- between the readers; no outcome rests on this

-- what a sign stands between, where so many brackets more may be opened
abbrev pub Operand : Sign → List ℕ → (room i j : ℕ) → Worth → Type 0
Operand Plus text room = Parallel text room
Operand Bars text room = Factor text room
