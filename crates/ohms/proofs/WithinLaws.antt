-- What a value comes to is a stage: it is outside the limits, or no more than the greatest. Assumes nothing.
use mathlib.Core.Path.{◌≡◌, refl}
use mathlib.Core.Bool.{Bool, true, false, cond}
use mathlib.Core.List.{List}
use mathlib.Core.Logic.{inl, inr}
use Prim.Native.Nat.{ℕ, zero, suc, ◌≤◌}
use Rattle.units.specs.Table.{between}
use Rattle.units.proofs.Every.{between_says}
use Rattle.console.specs.Number.{worth_at}
use Rattle.ohms.specs.Worth.{Worth, most, stage, together, joined}
use Rattle.ohms.specs.Grammar.{More, last, more, Chain, SumOf, Factor, Sum}
use Rattle.ohms.specs.declared.stages.Sign.{Sign}
use Rattle.ohms.specs.declared.stages.Sign.TheVariants.{Plus, Bars}
use Rattle.std.specs.Prelude.{Some, None}

-- no more than the greatest, if it is within the limits
abbrev pub Bounded : Worth → Type 0
Bounded (Some v) = v ≤ most
Bounded None = Unit {0}

-- a stage is bounded, whatever number it is of
pub stage_bounded : (n : ℕ) → Bounded (stage n)
unfolding stage
stage_bounded n = go (between 1 most n) refl
  where
    go : (t : Bool) → between 1 most n ≡ t → Bounded (cond t (Some n) None)
    go true e = (between_says 1 most n e).1
    go false e = tt

-- so are two values with a sign between them, whatever they are
joined_bounded : (sign : Sign) (v w : Worth) → Bounded (joined sign v w)
joined_bounded sign (Some a) (Some b) = stage_bounded (together sign a b)
joined_bounded sign (Some a) None = tt
joined_bounded sign None w = tt

-- ---- whatever stands in a text

-- what may stand there comes to nothing that is not bounded
abbrev AllBounded : (ℕ → ℕ → Worth → Type 0) → Type 0
AllBounded Item = (i j : ℕ) (w : Worth) → Item i j w → Bounded w

module _ (sign : Sign) (Item : ℕ → ℕ → Worth → Type 0) (text : List ℕ) where
  -- what follows on a value that is bounded
  more_bounded : {i j : ℕ} {v w : Worth} → Bounded v → More sign Item text i v j w → Bounded w
  more_bounded b (last e) = b
  more_bounded b (more {v = v} {u = u} e item rest) = more_bounded (joined_bounded sign v u) rest

  -- values with a sign between them, if each of them is
  chain_bounded : AllBounded Item → AllBounded (Chain sign Item text)
  chain_bounded all i j w c = more_bounded (all i c.end c.worth c.first) c.others

-- sums of parallels of such values
sum_of_bounded : (Item : ℕ → ℕ → Worth → Type 0) (text : List ℕ) → AllBounded Item → AllBounded (SumOf Item text)
sum_of_bounded Item text all = chain_bounded Plus (Chain Bars Item text) text (chain_bounded Bars Item text all)

-- a factor: a number, or a value in brackets
factor_bounded : (text : List ℕ) (room : ℕ) → AllBounded (Factor text room)
unfolding Factor
factor_bounded text zero i j w a = rw a.comes (stage_bounded (worth_at text i))
factor_bounded text (suc room) i j w (inl a) = rw a.comes (stage_bounded (worth_at text i))
factor_bounded text (suc room) i j w (inr a) = sum_of_bounded (Factor text room) text (factor_bounded text room) _ _ w a.inside

-- a value is bounded, however many brackets may be open
pub sum_bounded : (text : List ℕ) (room i j : ℕ) (w : Worth) → Sum text room i j w → Bounded w
sum_bounded text room = sum_of_bounded (Factor text room) text (factor_bounded text room)
