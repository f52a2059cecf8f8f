-- The numbers of a line, and a curve's: slope, breakpoint, slope, .., slope. s is what a line says, up to its comment; i is a place in it. Past the end
-- of s its bytes read as 0. Numbers are of any size. Assumes nothing.
use Rattle.std.specs.Prelude.{◌≡◌, Bool, true, ◌&&◌, cond, List, ℕ, suc, ◌+◌, eqb, ltb, ℤ, length, get_or, set}
use Rattle.units.specs.Float.{signed}
use Rattle.console.specs.Number.{worth_at}
use Rattle.console.specs.Words.{past}
use Rattle.console.specs.declared.words.Run.{Run}
use Rattle.console.specs.declared.words.Run.TheVariants.{Blanks, Digits}
use Rattle.image.specs.declared.parts.Curve.{Curve}

-- ---- words and numbers

-- from a word of some run of bytes at i on: where the next word begins
abbrev pub next : Run → List ℕ → ℕ → ℕ
next run s i = past Blanks s (past run s i)

-- a word of a run stands at i, and a blank after it
abbrev pub stands : Run → List ℕ → ℕ → Bool
stands run s i = ltb i (past run s i) && ltb (past run s i) (next run s i)

-- a number stands at i, and after it nothing but blanks
abbrev pub ends : List ℕ → ℕ → Bool
ends s i = ltb i (past Digits s i) && eqb (next Digits s i) (length s)

-- ---- curves

-- a breakpoint: a number, with a minus right before it or not
abbrev pub minus_at : List ℕ → ℕ → Bool
minus_at s i = eqb (get_or s i 0) 45

abbrev pub digits_at : List ℕ → ℕ → ℕ
digits_at s i = cond (minus_at s i) (i + 1) i

abbrev pub breakpoint_at : List ℕ → ℕ → ℤ
breakpoint_at s i = signed (minus_at s i) (worth_at s (digits_at s i))

-- a slope stands at i, and a breakpoint after it
abbrev pub stretch_stands : List ℕ → ℕ → Bool
stretch_stands s i = stands Digits s i && stands Digits s (digits_at s (next Digits s i))

-- where the next slope begins
abbrev pub after_stretch : List ℕ → ℕ → ℕ
after_stretch s i = next Digits s (digits_at s (next Digits s i))

-- a curve so far, with a slope and a breakpoint more; what is past the room of a curve is only counted
unfoldable pub with_stretch : Curve → ℕ → ℤ → Curve
with_stretch c slope breakpoint = record {
  count = suc c.count;
  slopes = set c.slopes c.count slope;
  breakpoints = set c.breakpoints c.count breakpoint;
}

-- .. and with its last slope
unfoldable pub with_slope : Curve → ℕ → Curve
with_slope c slope = record { count = c.count; slopes = set c.slopes c.count slope; breakpoints = c.breakpoints }

-- from i to the end stand the rest of a curve's numbers, which make of the curve so far a whole one
pub data Stretches (s : List ℕ) : ℕ → Curve → Curve → Type 0 where
  last : {i : ℕ} {c : Curve} → ends s i ≡ true → Stretches s i c (with_slope c (worth_at s i))
  more : {i : ℕ} {c whole : Curve} → stretch_stands s i ≡ true → Stretches s (after_stretch s i) (with_stretch c (worth_at s i) (breakpoint_at s (next Digits s i))) whole → Stretches s i c whole
