use Rattle.std.proofs.Common.{◌≡◌, ◌<◌, ℕ, leb, Some, Ok, Err, ap, arith, le-leb}
use Rattle.std.proofs.lemmas.Bool.{lt-leb}
use Rattle.std.specs.Prelude.{Result}
use Rattle.std.specs.Result.{OkIff, result_ok}
use Rattle.units.proofs.Every.{and_no}
use Rattle.ohms.specs.Worth.{most, stage}
use Rattle.ohms.proofs.stages.stage.Goals as goal

pub returns-then-n-eq0 : goal.returns-then-n-eq0
unfolding stage
returns-then-n-eq0 c = rw (lt-leb 1 c.args.n (omega (arith, c.if-n-eq0.true)))

-- a number that fits is a stage unless it is 0, and one that doesn't is none
fitted : {E : Type 0} (n : ℕ) (r : Result ℕ E) → OkIff r (n < 4294967296) n → (n ≡ 0 → ⊥) → result_ok r ≡ stage n
unfolding stage
fitted n (Ok v) within some = rw (le-leb 1 n (omega (arith, some)), le-leb n most (omega (arith, within.0))) (ap Some within.1)
fitted n (Err e) outside some = rw (lt-leb n most (omega (arith, outside)), and_no (leb 1 n))

pub returns : goal.returns
returns c = rw c.ok.ensures.value (fitted c.args.n c.try_from.result c.try_from.ensures c.if-n-eq0.false)
