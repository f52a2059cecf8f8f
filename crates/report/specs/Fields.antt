-- The fields of a line. Assumes nothing.
use Rattle.std.specs.Prelude.{List, [], ◌∷◌, ◌++◌, ℕ}
use Rattle.console.specs.Text.{decimal, line_end}

-- a number, and a space after it
abbrev pub column : ℕ → List ℕ
column n = decimal n ++ (32 ∷ [])

-- a number at the line's end
abbrev pub last_column : ℕ → List ℕ
last_column n = decimal n ++ line_end

-- a line of a word, which ends with its space, and a number
abbrev pub named_line : List ℕ → ℕ → List ℕ
named_line word n = word ++ last_column n
