-- Numbers as they are read from text, in ASCII. Assumes nothing.
use Rattle.std.specs.Prelude.{Bool, true, false, ◌&&◌, cond, List, [], ◌∷◌, ℕ, zero, suc, ◌+◌, ◌*◌, ◌-◌, ◌^◌, ℤ, Result, Ok, Err, eqb, leb, ltb, length, get_or, drop}
use Rattle.std.specs.List.{list_all}
use Rattle.units.specs.Float.{signed}
use Rattle.console.specs.Words.{is_digit, first}
use Rattle.console.specs.declared.number.NumberError.{NumberError}
use Rattle.console.specs.declared.number.NumberError.TheVariants.{NoNumber, Beyond}
use Rattle.console.specs.declared.words.Run.TheVariants.{Digits}

-- every byte is a digit
abbrev pub all_digits : List ℕ → Bool
all_digits text = list_all is_digit text

-- what the first n digits are worth: one more makes it ten times as much, and its own worth more
unfoldable pub worth : List ℕ → ℕ → ℕ
worth digits zero = 0
worth digits (suc n) = 10 * worth digits n + (get_or digits n 0 - 48)

-- what the digits are worth that stand from a place of a text on
abbrev pub worth_at : List ℕ → ℕ → ℕ
worth_at text i = let digits = first Digits (drop i text) in worth digits (length digits)

-- what stands after a number's sign: one digit or more and nothing else, or no number
unfoldable pub plain : (negative : Bool) → List ℕ → Result ℤ NumberError
plain negative digits =
    let size = worth digits (length digits) in
    cond (leb 1 (length digits) && all_digits digits) (cond (ltb size (2 ^ 63)) (Ok (signed negative size)) (Err Beyond)) (Err NoNumber)

-- what a text spells: a number is digits, with a minus right before them or not
unfoldable pub spelt : List ℕ → Result ℤ NumberError
spelt [] = Err NoNumber
spelt (b ∷ text) = cond (eqb b 45) (plain true text) (plain false (b ∷ text))
