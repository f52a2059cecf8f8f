-- What the reader of a factor answers is right. Assumes nothing.
use mathlib.Core.Path.{◌≡◌, refl, ap}
use mathlib.Core.List.{List}
use mathlib.Core.Logic.{◌⊎◌, inl, inr}
use Prim.Native.Nat.{ℕ, zero, suc, ◌+◌, ◌-◌, ◌^◌, ◌≤◌, ◌<◌, min}
use native.Mathlib.Omega.{arith}
use lib.ListN.{get_or, take, drop}
use borrow.Author.Tests.{le-leb, lt-leb}
use Rattle.units.proofs.Integers.{decide_n}
use Rattle.console.specs.Number.{worth_at}
use Rattle.console.specs.Words.{first, past}
use Rattle.console.specs.declared.words.Run.TheVariants.{Blanks, Digits}
use Rattle.ohms.specs.Worth.{Worth, stage, most}
use Rattle.ohms.specs.Grammar.{Written, Bracketed, Factor, Sum}
use Rattle.ohms.proofs.FactorLaws.{sum_reads}

-- a number of 2^63 is as far outside as a larger one
pub stage_far : (n : ℕ) → stage (min n (2 ^ 63)) ≡ stage n
unfolding stage
stage_far n = go (decide_n n (2 ^ 63))
  where
    go : (n ≤ 2 ^ 63) ⊎ (2 ^ 63 < n) → stage (min n (2 ^ 63)) ≡ stage n
    go (inl h) = let near : min n (2 ^ 63) ≡ n = omega arith in rw near
    go (inr h) =
        let far : min n (2 ^ 63) ≡ 2 ^ 63 = omega arith in
        rw (far, le-leb 1 n (omega arith), lt-leb n most (omega arith))

-- the digits that end at a place are those at the start of what stands there
pub written_there : (text : List ℕ) (i j : ℕ) → j ≡ past Digits text i → take (j - i) (drop i text) ≡ first Digits (drop i text)
written_there text i j e = ap (λ n. take n (drop i text)) (omega (arith, e))

module _ (text : List ℕ) where
  -- digits are a number
  pub factor_written : (room i : ℕ) (w : Worth) → i < past Digits text i → w ≡ stage (worth_at text i) → Factor text room i (past Blanks text (past Digits text i)) w
  unfolding Factor
  factor_written zero i w some e = record { digits = some; ends = refl; comes = e }
  factor_written (suc room) i w some e = inl (record { digits = some; ends = refl; comes = e })

  module _ (i : ℕ) (none : past Digits text i ≤ i) where
    unwritten : {j : ℕ} {w : Worth} → Written text i j w → ⊥
    unwritten a = omega (arith, a.digits)

    -- without digits nothing stands there if no bracket may be opened, or none is
    pub factor_unopened : (room : ℕ) → (room ≡ 0) ⊎ (get_or text i 0 ≡ 40 → ⊥) → (j : ℕ) (w : Worth) → Factor text room i j w → ⊥
    unfolding Factor
    factor_unopened zero e j w a = unwritten a
    factor_unopened (suc room) (inl e) j w a = absurd (omega arith)
    factor_unopened (suc room) (inr e) j w (inl a) = unwritten a
    factor_unopened (suc room) (inr e) j w (inr a) = e a.opens

    -- and otherwise what stands in the brackets, if they are closed
    in_brackets : (room : ℕ) → 1 ≤ room → {j : ℕ} {w : Worth} → Factor text room i j w → Bracketed (Sum text (room - 1)) text i j w
    unfolding Factor
    in_brackets zero some a = absurd (omega arith)
    in_brackets (suc room) some (inl a) = absurd (unwritten a)
    in_brackets (suc room) some (inr a) = let less : suc room - 1 ≡ room = omega arith in rw less a

    pub factor_empty : (room : ℕ) → 1 ≤ room → ((j : ℕ) (w : Worth) → Sum text (room - 1) (past Blanks text (i + 1)) j w → ⊥) → (j : ℕ) (w : Worth) → Factor text room i j w → ⊥
    factor_empty room some none j w a = let b = in_brackets room some a in none b.close w b.inside

    module _ (end : ℕ) (v : Worth) where
      pub factor_unclosed : (room : ℕ) → 1 ≤ room → Sum text (room - 1) (past Blanks text (i + 1)) end v → (get_or text end 0 ≡ 41 → ⊥) → (j : ℕ) (w : Worth) → Factor text room i j w → ⊥
      factor_unclosed room some inside e j w a =
          let b = in_brackets room some a in
          let same = (sum_reads text (room - 1)).once b.inside inside in
          e (rw same.0 at b.closes)

      pub factor_bracketed : (room : ℕ) → 1 ≤ room → Sum text (room - 1) (past Blanks text (i + 1)) end v → get_or text i 0 ≡ 40 → get_or text end 0 ≡ 41 → Factor text room i (past Blanks text (end + 1)) v
      unfolding Factor
      factor_bracketed zero some inside opens closes = absurd (omega arith)
      factor_bracketed (suc room) some inside opens closes =
          let less : suc room - 1 ≡ room = omega arith in
          inr (record { close = end; opens = opens; inside = rw less at inside; closes = closes; ends = refl })
