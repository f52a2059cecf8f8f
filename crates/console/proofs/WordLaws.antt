-- Where a run of bytes ends, and what a text's first line is. Assumes nothing.
use mathlib.Core.Path.{◌≡◌, refl, ap}
use mathlib.Core.Bool.{Bool, true, false, not, cond}
use mathlib.Core.List.{List, [], ◌∷◌}
use Prim.Native.Nat.{ℕ, zero, suc, ◌+◌, ◌-◌, ◌≤◌, ◌<◌}
use native.Mathlib.Omega.{arith}
use lib.Dec.{eqb}
use lib.ListN.{length, get_or, take, drop, length-drop}
use lib.Seq.{take_all}
use Rattle.std.proofs.lemmas.List.Sums.{prefix_len-le-length, prefix_len-drop_no}
use Rattle.console.specs.Words.{belongs, leading, first, past, onto, lines}
use Rattle.console.specs.declared.words.Run.{Run}
use Rattle.console.specs.declared.words.Run.TheVariants.{Line}

-- a byte of a text that is not 0 stands before its end
pub byte_there : (text : List ℕ) (i b : ℕ) → get_or text i 0 ≡ suc b → i < length text
byte_there [] i b e = absurd (omega (arith, e))
byte_there (x ∷ text) zero b e = omega arith
byte_there (x ∷ text) (suc i) b e = omega (arith, byte_there text i b e)

-- a text from a place on, as the code takes it
pub from_there : (i : ℕ) (text : List ℕ) → take (length text - i) (drop i text) ≡ drop i text
from_there i text = take_all (length text - i) (drop i text) (omega (arith, length-drop i text))

-- ---- the place after a run

module _ (run : Run) (text : List ℕ) (i : ℕ) where
  -- it is in the text, if the place before the run is, and if the run is not empty
  pub past_within : i ≤ length text → past run text i ≤ length text
  past_within h = omega (arith, prefix_len-le-length (belongs run) (drop i text), length-drop i text)

  pub past_within_some : i < past run text i → past run text i ≤ length text
  past_within_some h = omega (arith, prefix_len-le-length (belongs run) (drop i text), length-drop i text)

  -- and a run that is not empty begins with a byte that belongs to it
  pub past_some : i < past run text i → belongs run (get_or text i 0) ≡ true
  past_some h = go (belongs run (get_or text i 0)) refl
    where
      go : (t : Bool) → belongs run (get_or text i 0) ≡ t → t ≡ true
      go true e = refl
      go false e = absurd (omega (arith, prefix_len-drop_no (belongs run) text i 0 (omega (arith, prefix_len-le-length (belongs run) (drop i text), length-drop i text)) e))

-- ---- lines

-- the first line, and the lines after it
pub lines_first : (text : List ℕ) → (length text ≡ 0 → ⊥) → lines text ≡ first Line text ∷ lines (drop (suc (leading (belongs Line) text)) text)
unfolding lines
lines_first [] h = absurd (h refl)
lines_first (b ∷ []) h = go (eqb b 10)
  where
    go : (t : Bool) → cond t ([] ∷ []) ((b ∷ []) ∷ []) ≡ take (cond (not t) 1 0) (b ∷ []) ∷ lines (drop (cond (not t) 1 0) [])
    go true = refl
    go false = refl
lines_first (b ∷ c ∷ text) h = go (eqb b 10) (lines_first (c ∷ text) (λ e. omega arith))
  where
    n : ℕ
    n = leading (belongs Line) (c ∷ text)

    one_more : 1 + n ≡ suc n
    one_more = omega arith

    go : (t : Bool) → lines (c ∷ text) ≡ first Line (c ∷ text) ∷ lines (drop (suc n) (c ∷ text)) → cond t ([] ∷ lines (c ∷ text)) (onto b (lines (c ∷ text))) ≡ take (cond (not t) (1 + n) 0) (b ∷ c ∷ text) ∷ lines (drop (cond (not t) (1 + n) 0) (c ∷ text))
    go true rest = refl
    go false rest = rw one_more (ap (onto b) rest)
