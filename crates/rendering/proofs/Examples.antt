-- What a program writes, byte for byte: document 01's example, and a refusal. Assumes nothing.
use Rattle.std.proofs.Common.{◌≡◌, sym, [], ◌∷◌, ◌++◌, ℕ, get_or, pos, negsuc, arith, lit<, lit≤}
use Rattle.console.specs.Text.{decimal, number, line}
use Rattle.console.proofs.TextLaws.{decimal_is}
use Rattle.rendering.specs.Rendering.{lines, ending}

-- The digits of each number. The definition counts down from the number itself, which is too far to be computed.
zero_is : decimal 0 ≡ 48 ∷ []
zero_is = sym (decimal_is {n = 0} {k = 1} (lit≤ tt, lit< tt, λ h. absurd (omega arith)))

high_is : decimal 499999 ≡ 52 ∷ 57 ∷ 57 ∷ 57 ∷ 57 ∷ 57 ∷ []
high_is = sym (decimal_is {n = 499999} {k = 6} (lit≤ tt, lit< tt, λ h. lit≤ tt))

low_is : decimal 500000 ≡ 53 ∷ 48 ∷ 48 ∷ 48 ∷ 48 ∷ 48 ∷ []
low_is = sym (decimal_is {n = 500000} {k = 6} (lit≤ tt, lit< tt, λ h. lit≤ tt))

three_is : decimal 3 ≡ 51 ∷ []
three_is = sym (decimal_is {n = 3} {k = 1} (lit≤ tt, lit< tt, λ h. absurd (omega arith)))

-- 0, 499999, -500000 and `end 3`
pub document_example : lines (λ (j : ℕ). get_or (pos 0 ∷ pos 499999 ∷ negsuc 499999 ∷ []) j (pos 0)) 3 ++ ending 0 3 ≡ 48 ∷ 10 ∷ 52 ∷ 57 ∷ 57 ∷ 57 ∷ 57 ∷ 57 ∷ 10 ∷ 45 ∷ 53 ∷ 48 ∷ 48 ∷ 48 ∷ 48 ∷ 48 ∷ 10 ∷ 101 ∷ 110 ∷ 100 ∷ 32 ∷ 51 ∷ 10 ∷ []
unfolding lines line number
document_example = rw (zero_is, high_is, low_is, three_is)

-- `refused 10 after 1024`
pub refused_example : ending 10 1024 ≡ 114 ∷ 101 ∷ 102 ∷ 117 ∷ 115 ∷ 101 ∷ 100 ∷ 32 ∷ 49 ∷ 48 ∷ 32 ∷ 97 ∷ 102 ∷ 116 ∷ 101 ∷ 114 ∷ 32 ∷ 49 ∷ 48 ∷ 50 ∷ 52 ∷ 10 ∷ []
refused_example = rw (ten_is, many_is)
  where
    ten_is : decimal 10 ≡ 49 ∷ 48 ∷ []
    ten_is = sym (decimal_is {n = 10} {k = 2} (lit≤ tt, lit< tt, λ h. lit≤ tt))

    many_is : decimal 1024 ≡ 49 ∷ 48 ∷ 50 ∷ 52 ∷ []
    many_is = sym (decimal_is {n = 1024} {k = 4} (lit≤ tt, lit< tt, λ h. lit≤ tt))
