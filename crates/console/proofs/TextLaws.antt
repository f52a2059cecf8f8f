-- Texts added one after the other, and what a number's digits are. Assumes nothing.
use mathlib.Core.Path.{◌≡◌, refl, ◌∙◌}
use mathlib.Core.List.{List, [], ◌∷◌, ◌++◌}
use mathlib.Core.Bool.{Bool, true, false, true≢false}
use Prim.Native.Nat.{ℕ, zero, suc, ◌+◌, ◌*◌, ◌-◌, ◌/◌, ◌%◌, ◌^◌, ◌≤◌, ◌<◌}
use native.Mathlib.Nat.{pow-le-pow_right, pow-suc, mod-eq_of_lt, div-lt_iff_lt-mul, le-div_iff_mul-le}
use native.Mathlib.Omega.{arith}
use lib.Dec.{ltb}
use lib.IntN.{ℤ, pos, negsuc}
use lib.ListN.{length, take, drop, set, length-append, length-set}
use Rattle.std.proofs.Common.{append_assoc}
use Rattle.std.proofs.lemmas.List.{take-append-drop, take_more_set, drop-set-lt}
use lib.Signed.{lt_z}
use borrow.Author.Tests.{ltb-true, ltb-false, lt-ltb}
use Rattle.io.specs.Digits.{hex_digit_ascii, last_digits, IsDigitCount}
use Rattle.units.specs.Table.{overlaid}
use Rattle.units.proofs.Tables.{overlaid-length, overlaid-append}
use Rattle.console.specs.Text.{decimal_in, decimal, sign, Adds, Puts}
use Rattle.console.specs.declared.text.Text.{Text}

-- ---- texts in a buffer

-- a word in the place of as many bytes
pub overlaid_there : (l : List ℕ) (at : ℕ) (w : List ℕ) → at + length w ≤ length l → take at l ++ (w ++ drop (at + length w) l) ≡ overlaid l at w
unfolding overlaid
overlaid_there l at [] h = let e : at + 0 ≡ at = omega arith in rw e (take-append-drop at l)
overlaid_there l at (v ∷ w) h =
    let e : at + suc (length w) ≡ at + 1 + length w = omega arith in
    rw e (rw (take_more_set l at v (omega arith), drop-set-lt (at + 1 + length w) l at v (omega arith), append_assoc) at (overlaid_there (set l at v) (at + 1) w (simp length-set (omega arith))))

-- no text
pub adds_none : {m at : ℕ} {a : List ℕ} → Adds [] m at a at a
unfolding overlaid
adds_none {at = at} {a = a} = record { short = omega arith; moved = omega arith; buffer = refl }

-- a text and then another
pub adds_then : {v w : List ℕ} {m n at r s : ℕ} {a b c : List ℕ} → Adds v m at a r b → Adds w n r b s c → Adds (v ++ w) (m + n) at a s c
adds_then {v} {w} {at = at} {r = r} {a = a} p q =
    let l : length (v ++ w) ≡ length v + length w = length-append v w in
    record {
      short = omega (arith, l, p.short, q.short);
      moved = omega (arith, l, p.moved, q.moved);
      buffer = q.buffer ∙ rw (p.buffer, p.moved) (overlaid-append a at v w);
    }

-- with more room
pub adds_within : {w : List ℕ} {m n at r : ℕ} {a b : List ℕ} → m ≤ n → Adds w m at a r b → Adds w n at a r b
adds_within h p = record { short = omega (arith, p.short); moved = p.moved; buffer = p.buffer }

-- ---- texts at a cursor

-- a text that was added in the same buffer
pub puts_added : {w : List ℕ} {m : ℕ} {a b : Text} → b.buffer.ghost_name ≡ a.buffer.ghost_name → Adds w m a.end a.buffer.now b.end b.buffer.now → Puts w m a b
puts_added s p = record { same_buffer = s; as_long = rw p.buffer (overlaid-length _ _ _); adds = p }

-- a text and then another
pub puts_then : {v w : List ℕ} {m n : ℕ} {a b c : Text} → Puts v m a b → Puts w n b c → Puts (v ++ w) (m + n) a c
puts_then p q = record { same_buffer = q.same_buffer ∙ p.same_buffer; as_long = q.as_long ∙ p.as_long; adds = adds_then p.adds q.adds }

-- with more room
pub puts_within : {w : List ℕ} {m n : ℕ} {a b : Text} → m ≤ n → Puts w m a b → Puts w n a b
puts_within h p = record { same_buffer = p.same_buffer; as_long = p.as_long; adds = adds_within h p.adds }

-- no text
pub puts_none : {m : ℕ} {a : Text} → Puts [] m a a
puts_none = record { same_buffer = refl; as_long = refl; adds = adds_none }

-- ---- numbers in decimal

-- a digit's ASCII code
glyph_is : (d : ℕ) → d < 10 → hex_digit_ascii d ≡ 48 + d
glyph_is d h = rw (lt-ltb d 10 h)

-- a number below 10 has one digit
one_digit : {n k : ℕ} → n < 10 → IsDigitCount 10 1 n k → k ≡ 1
one_digit {n} {k} h f = by (ltb 1 k) refl
  where
    by : (b : Bool) → ltb 1 k ≡ b → k ≡ 1
    by false e = omega (arith, f.0, ltb-false 1 k e)
    by true e =
        let l : 1 < k = ltb-true 1 k e in
        let m : 10 ^ 1 ≤ 10 ^ (k - 1) = pow-le-pow_right (omega arith) {i = 1} {j = k - 1} (omega arith) in
        absurd (omega (arith, m, f.2 l))

-- the last digit apart
tenth_fewest : (n j : ℕ) → 10 ≤ n → IsDigitCount 10 1 n (suc j) → IsDigitCount 10 1 (n / 10) j
tenth_fewest n zero h f = absurd (omega (arith, f.1))
tenth_fewest n (suc i) h f =
    let places : suc (suc i) - 1 ≡ suc i = omega arith in
    let fewer : suc i - 1 ≡ i = omega arith in
    let below : n < 10 ^ suc i * 10 = rw (pow-suc 10 (suc i)) at f.1 in
    let above : 10 ^ i * 10 ≤ n = rw (places, pow-suc 10 i) at (f.2 (omega arith)) in
    (omega arith, (div-lt_iff_lt-mul {k = 10} {x = n} {y = 10 ^ suc i} (omega arith)).1 below, λ l. rw fewer ((le-div_iff_mul-le {k = 10} {x = 10 ^ i} {y = n} (omega arith)).1 above))

decimal_in_lem : (most n k : ℕ) → n < most → IsDigitCount 10 1 n k → last_digits 10 k n ≡ decimal_in most n
unfolding decimal_in
decimal_in_lem zero n k h f = absurd (omega arith)
decimal_in_lem (suc most) n k h f = by (ltb n 10) refl k f (decimal_in_lem most (n / 10))
  where
    by : (b : Bool) → ltb n 10 ≡ b → (k : ℕ) → IsDigitCount 10 1 n k → ((j : ℕ) → n / 10 < most → IsDigitCount 10 1 (n / 10) j → last_digits 10 j (n / 10) ≡ decimal_in most (n / 10)) → last_digits 10 k n ≡ decimal_in (suc most) n
    by true e k f tenth =
        let l : n < 10 = ltb-true n 10 e in
        rw (one_digit l f, e, mod-eq_of_lt l, glyph_is n l)
    by false e zero f tenth = absurd (omega (arith, f.0))
    by false e (suc j) f tenth =
        let l : 10 ≤ n = ltb-false n 10 e in
        rw (e, tenth j (omega arith) (tenth_fewest n j l f), glyph_is (n % 10) (omega arith))

-- the fewest digits are the number in decimal
pub decimal_is : {n k : ℕ} → IsDigitCount 10 1 n k → last_digits 10 k n ≡ decimal n
unfolding decimal
decimal_is {n} {k} f = decimal_in_lem (suc n) n k (omega arith) f

-- what fits 64 bits has at most twenty digits
pub few_digits : {n k : ℕ} → IsDigitCount 10 1 n k → n < 2 ^ 64 → k ≤ 20
few_digits {n} {k} f h = few (ltb 20 k) refl
  where
    few : (b : Bool) → ltb 20 k ≡ b → k ≤ 20
    few false e = ltb-false 20 k e
    few true e =
        let more : 20 < k = ltb-true 20 k e in
        let m : 10 ^ 20 ≤ 10 ^ (k - 1) = pow-le-pow_right (omega arith) {i = 20} {j = k - 1} (omega arith) in
        absurd (omega (arith, m, f.2 (omega arith)))

pub sign_above : (z : ℤ) → lt_z z (pos 0) ≡ false → sign z ≡ []
sign_above (pos n) e = refl
sign_above (negsuc n) e = absurd (true≢false e)
