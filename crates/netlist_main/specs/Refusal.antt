-- What the program `netlist` writes of a text that is refused. Assumes nothing.
use Rattle.std.specs.Prelude.{List, [], ◌∷◌, ◌++◌, ℕ}
use Rattle.console.specs.Text.{decimal, line_end, refused_word, refused_line}
use Rattle.netlist.specs.Answer.{number_of, line_of}
use Rattle.netlist.specs.declared.reader.Refusal.{Refusal}
use Rattle.netlist.specs.declared.reader.Refusal.TheVariants.{Rules, Grammar, Value}

-- ` line `
abbrev pub line_word : List ℕ
line_word = 32 ∷ 108 ∷ 105 ∷ 110 ∷ 101 ∷ 32 ∷ []

-- the number, and the line at fault
abbrev pub refused_at : ℕ → ℕ → List ℕ
refused_at n line = refused_word ++ (decimal n ++ (line_word ++ (decimal line ++ line_end)))

-- a rule of the image names no line
abbrev pub refusal : Refusal → List ℕ
refusal (Rules n) = refused_line (number_of (Rules n))
refusal (Grammar line) = refused_at (number_of (Grammar line)) (line_of (Grammar line))
refusal (Value line) = refused_at (number_of (Value line)) (line_of (Value line))
