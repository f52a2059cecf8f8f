-- The grammar of a resistor's value: what may stand in a text from a place i up to a place j, and what it comes to. Blanks (spaces, tabs, carriage
-- returns) may stand after each number, sign and bracket, and belong to it. Past the end of a text its bytes read as 0. Assumes nothing.
use Rattle.std.specs.Prelude.{◌≡◌, Bool, true, false, ◌&&◌, List, ◌⊎◌, ℕ, zero, suc, ◌+◌, ◌<◌, eqb, get_or}
use Rattle.console.specs.Number.{worth_at}
use Rattle.console.specs.Words.{past}
use Rattle.console.specs.declared.words.Run.TheVariants.{Blanks, Digits}
use Rattle.ohms.specs.Worth.{Worth, stage, joined}
use Rattle.ohms.specs.declared.stages.Sign.{Sign}
use Rattle.ohms.specs.declared.stages.Sign.TheVariants.{Plus, Bars}

-- ---- signs

-- a sign stands at a place: `+`, or `||`
abbrev pub stands : Sign → List ℕ → ℕ → Bool
stands Plus text i = eqb (get_or text i 0) 43
stands Bars text i = eqb (get_or text i 0) 124 && eqb (get_or text (i + 1) 0) 124

abbrev pub width : Sign → ℕ
width Plus = 1
width Bars = 2

-- where the value after a sign begins
abbrev pub after : Sign → List ℕ → ℕ → ℕ
after sign text i = past Blanks text (i + width sign)

-- ---- values with a sign between them, whatever a value is

-- a value that ends at i comes to v; with what follows on it, up to j, it comes to w: no such sign follows, or one with a value, and then more
pub data More (sign : Sign) (Item : ℕ → ℕ → Worth → Type 0) (text : List ℕ) : ℕ → Worth → ℕ → Worth → Type 0 where
  last : {i : ℕ} {v : Worth} → stands sign text i ≡ false → More sign Item text i v i v
  more : {i k j : ℕ} {v u w : Worth} → stands sign text i ≡ true → Item (after sign text i) k u → More sign Item text k (joined sign v u) j w → More sign Item text i v j w

-- a value and all that follows on it with this sign, taken together from the left
pub record Chain (sign : Sign) (Item : ℕ → ℕ → Worth → Type 0) (text : List ℕ) (i j : ℕ) (w : Worth) : Type 0 where
  pub end : ℕ
  pub worth : Worth
  pub first : Item i end worth
  pub others : More sign Item text end worth j w

-- ---- the value

-- a number: all the digits that stand there, one or more
pub record Written (text : List ℕ) (i j : ℕ) (w : Worth) : Type 0 where
  pub digits : i < past Digits text i
  pub ends : j ≡ past Blanks text (past Digits text i)
  pub comes : w ≡ stage (worth_at text i)

-- a value in brackets
pub record Bracketed (Inner : ℕ → ℕ → Worth → Type 0) (text : List ℕ) (i j : ℕ) (w : Worth) : Type 0 where
  pub close : ℕ
  pub opens : get_or text i 0 ≡ 40
  pub inside : Inner (past Blanks text (i + 1)) close w
  pub closes : get_or text close 0 ≡ 41
  pub ends : j ≡ past Blanks text (close + 1)

-- a sum of parallels of factors: parallel binds tighter
abbrev pub SumOf : (ℕ → ℕ → Worth → Type 0) → List ℕ → ℕ → ℕ → Worth → Type 0
SumOf Factor text = Chain Plus (Chain Bars Factor text) text

-- a factor, where so many brackets more may be opened: a number, or a value in brackets
unfoldable pub Factor : List ℕ → (room i j : ℕ) → Worth → Type 0
Factor text zero i j w = Written text i j w
Factor text (suc room) i j w = Written text i j w ⊎ Bracketed (SumOf (Factor text room) text) text i j w

abbrev pub Parallel : List ℕ → (room i j : ℕ) → Worth → Type 0
Parallel text room = Chain Bars (Factor text room) text

abbrev pub Sum : List ℕ → (room i j : ℕ) → Worth → Type 0
Sum text room = SumOf (Factor text room) text

-- how many brackets may be open at once; a resistor's value is a `Sum text most_open`
abbrev pub most_open : ℕ
most_open = 16
