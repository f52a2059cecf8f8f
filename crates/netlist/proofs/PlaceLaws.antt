-- Words and numbers on a line: where they stand, and that a curve's numbers have one reading. Assumes nothing.
use mathlib.Core.Path.{◌≡◌, refl, sym, ◌∙◌}
use mathlib.Core.Bool.{Bool, true, false, cond, false≢true}
use mathlib.Core.List.{List}
use Prim.Native.Nat.{ℕ, ◌+◌, ◌≤◌, ◌<◌}
use native.Mathlib.Omega.{arith}
use lib.Dec.{eqb, ltb}
use lib.ListN.{length, get_or}
use borrow.Author.Tests.{ltb-true, eqb-true}
use Rattle.units.proofs.Every.{both}
use Rattle.console.specs.Number.{worth_at}
use Rattle.console.specs.Words.{past}
use Rattle.console.specs.declared.words.Run.{Run}
use Rattle.console.specs.declared.words.Run.TheVariants.{Blanks, Digits}
use Rattle.console.proofs.WordLaws.{byte_there, past_within, past_within_some}
use Rattle.image.specs.Parts.{no_curve}
use Rattle.image.specs.declared.parts.Curve.{Curve}
use Rattle.netlist.specs.Curve.{next, stands, ends, minus_at, digits_at, breakpoint_at, stretch_stands, after_stretch, with_stretch, with_slope, Stretches, last, more}

-- a word stands before the end, and what follows on it is further on, and not past the end
pub record Stood (run : Run) (s : List ℕ) (i : ℕ) : Type 0 where
  pub some : i < past run s i
  pub parted : past run s i < next run s i
  pub within : next run s i ≤ length s

pub stood : (run : Run) (s : List ℕ) (i : ℕ) → stands run s i ≡ true → Stood run s i
stood run s i e =
    let t = both {a = ltb i (past run s i)} {b = ltb (past run s i) (next run s i)} e in
    let some = ltb-true i (past run s i) t.0 in
    record {
      some = some;
      parted = ltb-true (past run s i) (next run s i) t.1;
      within = past_within Blanks s (past run s i) (past_within_some run s i some);
    }

-- a number that nothing follows
pub ended : (s : List ℕ) (i : ℕ) → ends s i ≡ true → (i < past Digits s i) × (next Digits s i ≡ length s)
ended s i e =
    let t = both {a = ltb i (past Digits s i)} {b = eqb (next Digits s i) (length s)} e in
    (ltb-true i (past Digits s i) t.0, eqb-true (next Digits s i) (length s) t.1)

-- a breakpoint's digits begin where it does, or after its minus
pub digits_on : (s : List ℕ) (i : ℕ) → i ≤ digits_at s i
digits_on s i = go (minus_at s i)
  where
    go : (t : Bool) → i ≤ cond t (i + 1) i
    go true = omega arith
    go false = omega arith

-- a slope and a breakpoint: the next slope is further on, and not past the end
pub record Stretched (s : List ℕ) (i : ℕ) : Type 0 where
  pub before : next Digits s i < length s
  pub onward : i < after_stretch s i
  pub within : after_stretch s i ≤ length s

pub stretched : (s : List ℕ) (i : ℕ) → stretch_stands s i ≡ true → Stretched s i
stretched s i e =
    let t = both {a = stands Digits s i} {b = stands Digits s (digits_at s (next Digits s i))} e in
    let slope = stood Digits s i t.0 in
    let breakpoint = stood Digits s (digits_at s (next Digits s i)) t.1 in
    let on = digits_on s (next Digits s i) in
    record {
      before = omega arith;
      onward = omega arith;
      within = breakpoint.within;
    }

-- what ends a curve does not go on
pub ends_or_goes_on : (s : List ℕ) (i : ℕ) → ends s i ≡ true → stretch_stands s i ≡ true → ⊥
ends_or_goes_on s i e f = omega (arith, (ended s i e).1, (stretched s i f).before)

-- a curve's numbers have one reading
pub stretches_once : {s : List ℕ} {i : ℕ} {c a b : Curve} → Stretches s i c a → Stretches s i c b → a ≡ b
stretches_once (last e) (last f) = refl
stretches_once {s = s} {i = i} (last e) (more f rest) = absurd (ends_or_goes_on s i e f)
stretches_once {s = s} {i = i} (more e rest) (last f) = absurd (ends_or_goes_on s i f e)
stretches_once (more e rest) (more f rest') = stretches_once rest rest'

-- a minus stands before the end
pub minus_there : (s : List ℕ) (i : ℕ) → minus_at s i ≡ true → i < length s
minus_there s i e = byte_there s i 44 (eqb-true (get_or s i 0) 45 e)

-- ---- a curve that is read from the left

-- the curve so far, and the place where it goes on: the whole is that with whatever follows, and nothing else
pub record Drawing (s : List ℕ) (from at : ℕ) (c : Curve) : Type 0 where
  pub onward : {whole : Curve} → Stretches s at c whole → Stretches s from no_curve whole
  pub back : {whole : Curve} → Stretches s from no_curve whole → Stretches s at c whole

module _ (s : List ℕ) (from at : ℕ) (c : Curve) (drawing : Drawing s from at c) where
  pub drawing_more : stretch_stands s at ≡ true → Drawing s from (after_stretch s at) (with_stretch c (worth_at s at) (breakpoint_at s (next Digits s at)))
  drawing_more e = record {
    onward = λ r. drawing.onward (more e r);
    back = λ r. rest (drawing.back r);
  }
    where
      rest : {whole : Curve} → Stretches s at c whole → Stretches s (after_stretch s at) (with_stretch c (worth_at s at) (breakpoint_at s (next Digits s at))) whole
      rest (last f) = absurd (ends_or_goes_on s at f e)
      rest (more f r) = r

  pub drawing_last : ends s at ≡ true → Stretches s from no_curve (with_slope c (worth_at s at))
  drawing_last e = drawing.onward (last e)

  pub drawing_broken : stretch_stands s at ≡ false → ends s at ≡ false → {whole : Curve} → Stretches s from no_curve whole → ⊥
  drawing_broken g e r = none (drawing.back r)
    where
      none : {whole : Curve} → Stretches s at c whole → ⊥
      none (last f) = false≢true (sym e ∙ f)
      none (more f rest) = false≢true (sym g ∙ f)
