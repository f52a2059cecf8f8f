-- Values that are read by hand. Assumes nothing.
use mathlib.Core.Path.{◌≡◌, refl, sym}
use mathlib.Core.Bool.{true}
use mathlib.Core.List.{List, [], ◌∷◌}
use mathlib.Core.Logic.{inr}
use Prim.Native.Nat.{ℕ}
use lib.Dec.{ltb}
use borrow.Author.Tests.{ltb-true}
use Rattle.console.specs.Number.{worth, worth_at}
use Rattle.console.specs.Words.{past}
use Rattle.console.specs.declared.words.Run.TheVariants.{Blanks, Digits}
use Rattle.ohms.specs.Worth.{Worth, stage}
use Rattle.ohms.specs.Grammar.{last, more, Factor, Sum, most_open}
use Rattle.std.specs.Prelude.{Some, None}
use Rattle.ohms.proofs.FoundLaws.{factor_written}

-- digits from i on that come to w, with the blanks after them up to j
digits : (text : List ℕ) (room i j : ℕ) (w : Worth) → ltb i (past Digits text i) ≡ true → past Blanks text (past Digits text i) ≡ j → stage (worth_at text i) ≡ w → Factor text room i j w
digits text room i j w some e f = rw (← e) (factor_written text room i w (ltb-true i (past Digits text i) some) (sym f))

-- `1 + 2||2`: parallel binds tighter
abbrev pub tight : List ℕ
tight = 49 ∷ 32 ∷ 43 ∷ 32 ∷ 50 ∷ 124 ∷ 124 ∷ 50 ∷ []

pub tight_is_2 : Sum tight most_open 0 8 (Some 2)
unfolding worth stage
tight_is_2 = record {
  end = 2;
  worth = Some 1;
  first = record { end = 2; worth = Some 1; first = digits tight most_open 0 2 (Some 1) refl refl refl; others = last refl };
  others = more refl (record {
    end = 5;
    worth = Some 2;
    first = digits tight most_open 4 5 (Some 2) refl refl refl;
    others = more refl (digits tight most_open 7 8 (Some 2) refl refl refl) (last refl);
  }) (last refl);
}

-- `6||3||2`: from the left, 2 and then 1; from the right it would be 1 and then 0
abbrev pub leftward : List ℕ
leftward = 54 ∷ 124 ∷ 124 ∷ 51 ∷ 124 ∷ 124 ∷ 50 ∷ []

pub leftward_is_1 : Sum leftward most_open 0 7 (Some 1)
unfolding worth stage
leftward_is_1 = record {
  end = 7;
  worth = Some 1;
  first = record {
    end = 1;
    worth = Some 6;
    first = digits leftward most_open 0 1 (Some 6) refl refl refl;
    others = more refl (digits leftward most_open 3 4 (Some 3) refl refl refl) (more refl (digits leftward most_open 6 7 (Some 2) refl refl refl) (last refl));
  };
  others = last refl;
}

-- `(1)||0`: 0 is outside, and so is all that it is part of
abbrev pub nothing : List ℕ
nothing = 40 ∷ 49 ∷ 41 ∷ 124 ∷ 124 ∷ 48 ∷ []

pub nothing_is_outside : Sum nothing most_open 0 6 None
unfolding worth stage Factor
nothing_is_outside = record {
  end = 6;
  worth = None;
  first = record {
    end = 3;
    worth = Some 1;
    first = inr (record {
      close = 2;
      opens = refl;
      inside = record {
        end = 2;
        worth = Some 1;
        first = record { end = 2; worth = Some 1; first = digits nothing 15 1 2 (Some 1) refl refl refl; others = last refl };
        others = last refl;
      };
      closes = refl;
      ends = refl;
    });
    others = more refl (digits nothing most_open 5 6 None refl refl refl) (last refl);
  };
  others = last refl;
}
