-- Text as the programs write it, in ASCII. Assumes nothing.
use Rattle.std.specs.Prelude.{◌≡◌, cond, List, [], ◌∷◌, ◌++◌, ℕ, zero, suc, ◌+◌, ◌/◌, ◌%◌, ◌≤◌, ltb, ℤ, pos, negsuc, nat_abs, length}
use Rattle.units.specs.Table.{overlaid}
use Rattle.console.specs.declared.text.Text.{Text}

-- a number in decimal, where it has at most so many digits: its only digit, or the digits of a tenth of it and then its last
unfoldable pub decimal_in : ℕ → ℕ → List ℕ
decimal_in zero n = []
decimal_in (suc most) n = cond (ltb n 10) ((48 + n) ∷ []) (decimal_in most (n / 10) ++ ((48 + n % 10) ∷ []))

-- a number in decimal, with no zero in front of another digit: n has at most n + 1 digits
unfoldable pub decimal : ℕ → List ℕ
decimal n = decimal_in (suc n) n

-- what stands before the digits: nothing, or a minus
abbrev pub sign : ℤ → List ℕ
sign (pos n) = []
sign (negsuc n) = 45 ∷ []

abbrev pub line_end : List ℕ
line_end = 10 ∷ []

-- a number with its sign, and as a line
unfoldable pub number : ℤ → List ℕ
number z = sign z ++ decimal (nat_abs z)

unfoldable pub line : ℤ → List ℕ
line z = number z ++ line_end

-- `refused `, which a refusal's number follows
abbrev pub refused_word : List ℕ
refused_word = 114 ∷ 101 ∷ 102 ∷ 117 ∷ 115 ∷ 101 ∷ 100 ∷ 32 ∷ []

-- a refusal by its number, as a line
abbrev pub refused_line : ℕ → List ℕ
refused_line n = refused_word ++ (decimal n ++ line_end)

-- a text was added to a buffer: it stands from `at` on, r is where it ends, and every other byte is as it was. It has at most so many bytes, which follows and is there for callers
pub record Adds (text : List ℕ) (most at : ℕ) (before : List ℕ) (r : ℕ) (after : List ℕ) : Type 0 where
  pub short : length text ≤ most
  pub moved : r ≡ at + length text
  pub buffer : after ≡ overlaid before at text

-- a cursor has room for so many bytes
abbrev pub HasRoom : ℕ → Text → Type 0
HasRoom n text = text.end + n ≤ length text.buffer.now

-- a text was put at a cursor: it was added to the cursor's buffer, which is the same and as long as it was, and ends where the cursor is now
pub record Puts (text : List ℕ) (most : ℕ) (before after : Text) : Type 0 where
  pub same_buffer : after.buffer.ghost_name ≡ before.buffer.ghost_name
  pub as_long : length after.buffer.now ≡ length before.buffer.now
  pub adds : Adds text most before.end before.buffer.now after.end after.buffer.now
