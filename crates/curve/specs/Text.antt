-- A measured list as text: what its lines say, and the curve that comes of it. Assumes nothing.
use Rattle.std.specs.Prelude.{cond, List, [], ◌∷◌, ℕ, eqb, leb, ℤ, Result, Ok, Err, length}
use Rattle.console.specs.Number.{spelt}
use Rattle.console.specs.Words.{first, rest, lines}
use Rattle.console.specs.declared.number.NumberError.{NumberError}
use Rattle.console.specs.declared.words.Run.TheVariants.{Blanks, Word, Said}
use Rattle.image.specs.declared.parts.Curve.{Curve}
use Rattle.measured.specs.Measured.{measured}
use Rattle.measured.specs.declared.drawing.Refusal.{Refusal}
use Rattle.measured.specs.declared.drawing.Refusal.TheVariants.{Pairs}
use Rattle.curve.specs.declared.line.Line.{Line}
use Rattle.curve.specs.declared.line.Line.TheVariants.{Empty, Pair, Other}

-- ---- a line

-- of a text that begins with a word: from the next word on
abbrev pub next_word : List ℕ → List ℕ
next_word text = rest Blanks (rest Word text)

-- two words are a pair if both are numbers below 2^63 in size: a larger one would break a rule of the pairs in any case
abbrev pub pair_of : Result ℤ NumberError → Result ℤ NumberError → Line
pair_of (Ok v) (Ok i) = Pair v i
pair_of (Ok v) (Err e) = Other
pair_of (Err e) i = Other

-- a line says nothing if it has no word before its comment, and a pair if it has two
unfoldable pub line_of : List ℕ → Line
line_of line =
    let one = rest Blanks (first Said line) in
    let two = next_word one in
    cond (eqb (length one) 0) Empty (cond (eqb (length (next_word two)) 0) (pair_of (spelt (first Word one)) (spelt (first Word two))) Other)

-- ---- a text

-- what lines say together: the voltages and the currents of all pairs, or nothing where a line says something else
pub data Told : Type 0 where
  told : List ℤ → List ℤ → Told
  broken : Told

abbrev pub joined : Line → Told → Told
joined Empty more = more
joined Other more = broken
joined (Pair v i) (told volts amps) = told (v ∷ volts) (i ∷ amps)
joined (Pair v i) broken = broken

unfoldable pub told_by : List (List ℕ) → Told
told_by [] = told [] []
told_by (line ∷ lines) = joined (line_of line) (told_by lines)

-- ---- the curve

abbrev pub answer : Told → Result Curve Refusal
answer (told volts amps) = measured volts amps
answer broken = Err Pairs

-- the longest text that is read, in bytes
abbrev pub longest_text : ℕ
longest_text = 65535

unfoldable pub curve_of : List ℕ → Result Curve Refusal
curve_of text = cond (leb (length text) longest_text) (answer (told_by (lines text))) (Err Pairs)
