-- What a value comes to. Each number that is written and each result is a stage, and must be within the limits. Assumes nothing.
use Rattle.std.specs.Prelude.{cond, ℕ, ◌+◌, ◌*◌, ◌/◌, Option, Some, None}
use Rattle.units.specs.Table.{between}
use Rattle.ohms.specs.declared.stages.Sign.{Sign}
use Rattle.ohms.specs.declared.stages.Sign.TheVariants.{Plus, Bars}

-- what a value comes to: a whole number within the limits, or none, which is outside them
abbrev pub Worth : Type 0
Worth = Option ℕ

-- the greatest value
abbrev pub most : ℕ
most = 4294967295

-- a stage: so much, or outside if it is 0 or above the greatest
unfoldable pub stage : ℕ → Worth
stage n = cond (between 1 most n) (Some n) None

-- in series: the sum; in parallel: the product over the sum, rounded down
abbrev pub together : Sign → ℕ → ℕ → ℕ
together Plus a b = a + b
together Bars a b = a * b / (a + b)

-- what a sign makes of two values: a stage, unless a stage of theirs was outside
abbrev pub joined : Sign → Worth → Worth → Worth
joined sign (Some a) (Some b) = stage (together sign a b)
joined sign (Some a) None = None
joined sign None w = None
