-- A resistor's value has one reading, however many brackets may be open. Assumes nothing.
use mathlib.Core.Path.{◌≡◌, sym, ◌∙◌, ap}
use mathlib.Core.Bool.{true, false≢true}
use mathlib.Core.List.{List}
use mathlib.Core.Logic.{◌⊎◌, inl, inr}
use Prim.Native.Nat.{ℕ, zero, suc, ◌+◌, ◌≤◌, ◌<◌}
use native.Mathlib.Omega.{arith}
use lib.ListN.{length, get_or}
use lib.Dec.{eqb}
use borrow.Author.Tests.{eqb-true}
use Rattle.units.proofs.Every.{both}
use Rattle.console.specs.Words.{past}
use Rattle.console.specs.declared.words.Run.TheVariants.{Blanks, Digits}
use Rattle.console.proofs.WordLaws.{byte_there, past_within, past_within_some, past_some}
use Rattle.ohms.specs.Worth.{Worth}
use Rattle.ohms.specs.Grammar.{stands, width, Chain, Written, Bracketed, SumOf, Factor, Parallel, Sum}
use Rattle.ohms.specs.Found.{Operand}
use Rattle.ohms.specs.declared.stages.Sign.{Sign}
use Rattle.ohms.specs.declared.stages.Sign.TheVariants.{Plus, Bars}
use Rattle.ohms.proofs.ChainLaws.{OneReading, chain_reads}

-- and so does a sign
pub sign_there : (sign : Sign) (text : List ℕ) (i : ℕ) → stands sign text i ≡ true → i + width sign ≤ length text
sign_there Plus text i e = omega (arith, byte_there text i 42 (eqb-true (get_or text i 0) 43 e))
sign_there Bars text i e = omega (arith, byte_there text (i + 1) 123 (eqb-true (get_or text (i + 1) 0) 124 (both {a = eqb (get_or text i 0) 124} e).1))

module _ (text : List ℕ) where
  written_reads : OneReading text (Written text)
  written_reads = record {
    once = λ a b. (a.ends ∙ sym b.ends, a.comes ∙ sym b.comes);
    longer = λ a. omega (arith, a.digits, a.ends);
    within = λ {i} a. omega (arith, a.ends, past_within Blanks text (past Digits text i) (past_within_some Digits text i a.digits));
  }

  -- a digit is no bracket
  apart : (i : ℕ) → i < past Digits text i → get_or text i 0 ≡ 40 → ⊥
  apart i h e = false≢true (rw e at (past_some Digits text i h))

  module _ (Inner : ℕ → ℕ → Worth → Type 0) (one : OneReading text Inner) where
    bracketed_once : {i j k : ℕ} {v w : Worth} → Bracketed Inner text i j v → Bracketed Inner text i k w → (j ≡ k) × (v ≡ w)
    bracketed_once a b =
        let same = one.once a.inside b.inside in
        (a.ends ∙ ap (λ (c : ℕ). past Blanks text (c + 1)) same.0 ∙ sym b.ends, same.1)

    bracketed_longer : {i j : ℕ} {w : Worth} → Bracketed Inner text i j w → i < j
    bracketed_longer a = omega (arith, a.ends, one.longer a.inside)

    bracketed_within : {i j : ℕ} {w : Worth} → Bracketed Inner text i j w → j ≤ length text
    bracketed_within a = omega (arith, a.ends, past_within Blanks text (a.close + 1) (omega (arith, byte_there text a.close 40 a.closes)))

    either_once : {i j k : ℕ} {v w : Worth} → Written text i j v ⊎ Bracketed Inner text i j v → Written text i k w ⊎ Bracketed Inner text i k w → (j ≡ k) × (v ≡ w)
    either_once (inl a) (inl b) = written_reads.once a b
    either_once {i = i} (inl a) (inr b) = absurd (apart i a.digits b.opens)
    either_once {i = i} (inr a) (inl b) = absurd (apart i b.digits a.opens)
    either_once (inr a) (inr b) = bracketed_once a b

    either_longer : {i j : ℕ} {w : Worth} → Written text i j w ⊎ Bracketed Inner text i j w → i < j
    either_longer (inl a) = written_reads.longer a
    either_longer (inr a) = bracketed_longer a

    either_within : {i j : ℕ} {w : Worth} → Written text i j w ⊎ Bracketed Inner text i j w → j ≤ length text
    either_within (inl a) = written_reads.within a
    either_within (inr a) = bracketed_within a

    either_reads : OneReading text (λ (i j : ℕ) (w : Worth). Written text i j w ⊎ Bracketed Inner text i j w)
    either_reads = record {
      once = either_once;
      longer = either_longer;
      within = either_within;
    }

  pub sum_of_reads : (Item : ℕ → ℕ → Worth → Type 0) → OneReading text Item → OneReading text (SumOf Item text)
  sum_of_reads Item one = chain_reads Plus (Chain Bars Item text) text (chain_reads Bars Item text one)

  pub factor_reads : (room : ℕ) → OneReading text (Factor text room)
  unfolding Factor
  factor_reads zero = written_reads
  factor_reads (suc room) = either_reads (SumOf (Factor text room) text) (sum_of_reads (Factor text room) (factor_reads room))

pub parallel_reads : (text : List ℕ) (room : ℕ) → OneReading text (Parallel text room)
parallel_reads text room = chain_reads Bars (Factor text room) text (factor_reads text room)

-- a value has one end and comes to one thing
pub sum_reads : (text : List ℕ) (room : ℕ) → OneReading text (Sum text room)
sum_reads text room = sum_of_reads text (Factor text room) (factor_reads text room)

-- so has what a sign stands between
pub operand_reads : (sign : Sign) (text : List ℕ) (room : ℕ) → OneReading text (Operand sign text room)
operand_reads Plus text room = parallel_reads text room
operand_reads Bars text room = factor_reads text room
