-- What a text tells, its first line apart from the others. Assumes nothing.
use mathlib.Core.Path.{◌≡◌, refl, ap}
use mathlib.Core.List.{List, []}
use Prim.Native.Nat.{ℕ, suc}
use lib.ListN.{length, drop}
use Rattle.console.specs.Words.{belongs, leading, first, lines}
use Rattle.console.specs.declared.words.Run.TheVariants.{Line}
use Rattle.console.proofs.WordLaws.{lines_first}
use Rattle.curve.specs.Text.{line_of, told, joined, told_by}

-- how long the first line is
abbrev pub line_length : List ℕ → ℕ
line_length text = leading (belongs Line) text

-- no text tells nothing
pub told_none : told_by (lines []) ≡ told [] []
unfolding lines told_by
told_none = refl

-- any other what its first line says, and then what follows on that line's end
pub told_first : (text : List ℕ) → (length text ≡ 0 → ⊥) → told_by (lines text) ≡ joined (line_of (first Line text)) (told_by (lines (drop (suc (line_length text)) text)))
unfolding told_by
told_first text some = ap told_by (lines_first text some)
