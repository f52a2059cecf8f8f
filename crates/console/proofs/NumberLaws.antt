-- What digits are worth, digit by digit, and when that is 2^63 or more. Assumes nothing.
use mathlib.Core.Path.{◌≡◌, refl}
use mathlib.Core.Bool.{Bool, true, false, ◌&&◌, false≢true, true≢false, cond}
use mathlib.Core.List.{List, [], ◌∷◌}
use mathlib.Core.Logic.{◌⊎◌, inl, inr, ⊎_elim}
use Prim.Native.Nat.{ℕ, zero, suc, ◌+◌, ◌*◌, ◌-◌, ◌^◌, ◌≤◌, ◌<◌}
use native.Mathlib.Numerals.{add-one}
use native.Mathlib.Omega.{arith}
use lib.Dec.{eqb, leb}
use lib.ListN.{length, get_or, take, drop}
use borrow.Author.Tests.{lt-leb, le-leb, lt-ltb, le-ltb}
use Rattle.std.specs.Prelude.{Ok, Err, nat_eq}
use Rattle.std.specs.Cmp.Lexicographic.{pointwise}
use Rattle.units.proofs.Every.{both, and_no, between_says}
use Rattle.units.specs.Float.{signed}
use Rattle.units.proofs.Integers.{decide_n}
use Rattle.console.specs.Number.{all_digits, worth, plain, spelt}
use Rattle.console.specs.Words.{is_digit, leading, first}
use Rattle.console.specs.declared.words.Run.TheVariants.{Digits}
use Rattle.console.specs.declared.number.NumberError.TheVariants.{NoNumber, Beyond}

pub worth_none : (digits : List ℕ) → worth digits 0 ≡ 0
unfolding worth
worth_none digits = refl

pub worth_more : (digits : List ℕ) (n : ℕ) → worth digits (n + 1) ≡ 10 * worth digits n + (get_or digits n 0 - 48)
unfolding worth
worth_more digits n = rw add-one

-- more digits are worth no less
worth_grows : (digits : List ℕ) (m n : ℕ) → m ≤ n → worth digits m ≤ worth digits n
worth_grows digits m zero h =
    let e : m ≡ 0 = omega arith in
    rw e (omega arith)
worth_grows digits m (suc n) h =
    ⊎_elim
    (λ (l : m ≤ n). rw (← (add-one n)) (omega (arith, worth_grows digits m n l, worth_more digits n)))
    (λ (l : n < m). let e : m ≡ suc n = omega arith in rw e (omega arith))
    (decide_n m n)

-- one digit more than a tenth of what is beyond
pub worth_beyond : (digits : List ℕ) (m n : ℕ) → m < n → 922337203685477580 < worth digits m → 2 ^ 63 ≤ worth digits n
worth_beyond digits m n h l = omega (arith, worth_grows digits (m + 1) n (omega arith), worth_more digits m)

-- what stands among digits is 48 or more
pub digit_says : (digits : List ℕ) (j : ℕ) → all_digits digits ≡ true → j < length digits → 48 ≤ get_or digits j 0
digit_says [] j e h = absurd (omega arith)
digit_says (b ∷ digits) zero e h = (between_says 48 57 b (both {a = is_digit b} e).0).0
digit_says (b ∷ digits) (suc j) e h = digit_says digits j (both {a = is_digit b} e).1 (omega arith)

-- the digits at the start of a text are digits
pub digits_only : (text : List ℕ) → all_digits (first Digits text) ≡ true
digits_only [] = refl
digits_only (b ∷ text) = go (is_digit b) refl (digits_only text)
  where
    go : (t : Bool) → is_digit b ≡ t → all_digits (first Digits text) ≡ true → all_digits (take (cond t (1 + leading is_digit text) 0) (b ∷ text)) ≡ true
    go false e rest = refl
    go true e rest =
        let one_more : 1 + leading is_digit text ≡ suc (leading is_digit text) = omega arith in
        rw (one_more, e) rest

-- ---- what a text spells

pub plain_none : (negative : Bool) (digits : List ℕ) → (length digits ≡ 0) ⊎ (all_digits digits ≡ false) → Err NoNumber ≡ plain negative digits
unfolding plain
plain_none negative digits (inl e) = rw (lt-leb 1 (length digits) (omega arith))
plain_none negative digits (inr e) = rw (e, and_no (leb 1 (length digits)))

module _ (negative : Bool) (digits : List ℕ) (some : 0 < length digits) (all : all_digits digits ≡ true) where
  pub plain_beyond : 2 ^ 63 ≤ worth digits (length digits) → Err Beyond ≡ plain negative digits
  unfolding plain
  plain_beyond large = rw (le-leb 1 (length digits) (omega arith), all, le-ltb (worth digits (length digits)) (2 ^ 63) large)

  pub plain_value : worth digits (length digits) < 2 ^ 63 → Ok (signed negative (worth digits (length digits))) ≡ plain negative digits
  unfolding plain
  plain_value small = rw (le-leb 1 (length digits) (omega arith), all, lt-ltb (worth digits (length digits)) (2 ^ 63) small)

-- by its first byte
pub spelt_minus : (text : List ℕ) → pointwise nat_eq (take 1 text) (45 ∷ []) ≡ true → spelt text ≡ plain true (drop 1 text)
unfolding spelt
spelt_minus [] e = absurd (false≢true e)
spelt_minus (b ∷ text) e = rw (both {a = eqb b 45} e).0

pub spelt_plain : (text : List ℕ) → pointwise nat_eq (take 1 text) (45 ∷ []) ≡ false → spelt text ≡ plain false text
unfolding spelt plain
spelt_plain [] e = refl
spelt_plain (b ∷ text) e = go (eqb b 45) e
  where
    go : (t : Bool) → t && true ≡ false → cond t (plain true text) (plain false (b ∷ text)) ≡ plain false (b ∷ text)
    go true e = absurd (true≢false e)
    go false e = refl
