-- A curve as lines, in the words that the bench's circuits use for one. Assumes nothing.
use Rattle.std.specs.Prelude.{◌≡◌, List, [], ◌∷◌, ◌++◌, ℕ, suc, ◌<◌, ℤ, pos, length, get_or}
use Rattle.units.specs.Table.{in_turn}
use Rattle.network.specs.Network.{reading}
use Rattle.image.specs.declared.parts.Curve.{Curve}
use Rattle.console.specs.Text.{number, line_end}

-- a number after a space, and the first n of some numbers
abbrev pub spaced : ℤ → List ℕ
spaced z = 32 ∷ number z

abbrev pub spaced_all : (ℕ → ℤ) → ℕ → List ℕ
spaced_all f = in_turn (λ (j : ℕ). spaced (f j))

-- these are numbers of a type, each of which is read as z says at its place
abbrev pub ReadAs : {T : Type 0} → (T → ℤ → Type 0) → List T → (ℕ → ℤ) → Type 0
ReadAs {T} converts numbers z = (j : ℕ) (number : T) (read : ℤ) → j < length numbers → number ≡ get_or numbers j number → converts number read → read ≡ z j

-- a slope as a number
abbrev pub slope_number : List ℕ → ℕ → ℤ
slope_number slopes j = pos (get_or slopes j 0)

-- `slopes`
abbrev pub slopes_word : List ℕ
slopes_word = 115 ∷ 108 ∷ 111 ∷ 112 ∷ 101 ∷ 115 ∷ []

-- `breakpoints`
abbrev pub breakpoints_word : List ℕ
breakpoints_word = 98 ∷ 114 ∷ 101 ∷ 97 ∷ 107 ∷ 112 ∷ 111 ∷ 105 ∷ 110 ∷ 116 ∷ 115 ∷ []

-- a curve's slopes on one line, and its breakpoints on another
abbrev pub slopes_line : Curve → List ℕ
slopes_line c = slopes_word ++ (spaced_all (slope_number c.slopes) (suc c.count) ++ line_end)

abbrev pub breakpoints_line : Curve → List ℕ
breakpoints_line c = breakpoints_word ++ (spaced_all (reading c.breakpoints) c.count ++ line_end)

abbrev pub curve_lines : Curve → List ℕ
curve_lines c = slopes_line c ++ breakpoints_line c
