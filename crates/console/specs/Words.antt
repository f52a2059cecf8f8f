-- Text taken apart into runs of bytes, in ASCII. Assumes nothing.
use Rattle.std.specs.Prelude.{Bool, ◌||◌, not, cond, List, [], ◌∷◌, ℕ, ◌+◌, eqb, take, drop}
use Rattle.std.specs.List.{prefix_len}
use Rattle.units.specs.Table.{between}
use Rattle.console.specs.declared.words.Run.{Run}
use Rattle.console.specs.declared.words.Run.TheVariants.{Blanks, Word, Line, Said, Digits, Name}

-- space, tab and carriage return
abbrev pub is_blank : ℕ → Bool
is_blank b = eqb b 32 || eqb b 9 || eqb b 13

abbrev pub is_digit : ℕ → Bool
is_digit b = between 48 57 b

-- letters, digits and the underscore
abbrev pub is_naming : ℕ → Bool
is_naming b = is_digit b || between 65 90 b || between 97 122 b || eqb b 95

-- a word has no blanks, a line no line feed, and what it says no semicolon, which begins a comment
abbrev pub belongs : Run → ℕ → Bool
belongs Blanks b = is_blank b
belongs Word b = not (is_blank b)
belongs Line b = not (eqb b 10)
belongs Said b = not (eqb b 59)
belongs Digits b = is_digit b
belongs Name b = is_naming b

-- how many bytes at the start of a text are of a kind
abbrev pub leading : (ℕ → Bool) → List ℕ → ℕ
leading kind text = prefix_len kind text

-- the bytes at the start that belong to a run, and those after them
abbrev pub first : Run → List ℕ → List ℕ
first run text = take (leading (belongs run) text) text

abbrev pub rest : Run → List ℕ → List ℕ
rest run text = drop (leading (belongs run) text) text

-- the place after those that stand from a place of the text on
abbrev pub past : Run → List ℕ → ℕ → ℕ
past run text i = i + leading (belongs run) (drop i text)

-- a byte more at the start of the first of these lines
abbrev pub onto : ℕ → List (List ℕ) → List (List ℕ)
onto b [] = (b ∷ []) ∷ []
onto b (line ∷ lines) = (b ∷ line) ∷ lines

-- a text's lines: a line feed ends one, and what stands after the last one is a line unless it is nothing
unfoldable pub lines : List ℕ → List (List ℕ)
lines [] = []
lines (b ∷ text) = cond (eqb b 10) ([] ∷ lines text) (onto b (lines text))
