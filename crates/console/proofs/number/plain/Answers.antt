use Rattle.std.proofs.Common.{ℕ, List, [], ◌∷◌, false, ◌≡◌, ◌<◌, length, sym, ◌∙◌, ap, arith, rules, inl, inr, Ok, w64, to_z, of_z}
use mathlib.Core.Bool.{true≢false}
use lib.Dec.{eqb}
use borrow.Author.Tests.{eqb-true}
use Rattle.units.specs.Float.{signed}
use Rattle.console.specs.Number.{worth}
use Rattle.console.proofs.NumberLaws.{plain_none, plain_beyond, plain_value}
use Rattle.console.proofs.number.plain.Goals.{then-is_empty-via-then-is_empty, then-is_empty-via-else-is_empty+then-not-all_digits}
use Rattle.console.proofs.number.plain.Goals as goal

pub returns-then-is_empty : goal.returns-then-is_empty
returns-then-is_empty c =
    let a = c.args in
    elim c.then-is_empty.branch [
      | then-is_empty-via-then-is_empty w ↦ plain_none a.negative a.digits.now (inl (eqb-true (length a.digits.now) 0 (sym c.is_empty.ensures ∙ w.if-is_empty.true)))
      | then-is_empty-via-else-is_empty+then-not-all_digits w ↦ plain_none a.negative a.digits.now (inr (sym w.all_digits.ensures ∙ w.if-not-all_digits.true))
    ]

some : (digits : List ℕ) → eqb (length digits) 0 ≡ false → 0 < length digits
some [] e = absurd (true≢false e)
some (b ∷ digits) e = omega arith

pub returns-then-size-ge-BEYOND : goal.returns-then-size-ge-BEYOND
returns-then-size-ge-BEYOND c =
    let a = c.args in
    plain_beyond a.negative a.digits.now (some c.args.digits.now (sym c.is_empty.ensures ∙ c.if-is_empty.false)) (sym c.all_digits.ensures ∙ c.if-not-all_digits.false) (omega (arith, c.worth-size.ensures, c.if-size-ge-BEYOND.true))

pub returns : goal.returns
returns c =
    let a = c.args in
    let digits = a.digits.now in
    let size : c.worth-size.result ≡ worth digits (length digits) = omega (arith, c.worth-size.ensures, c.if-size-ge-BEYOND.false) in
    let whole : to_z w64 (of_z w64 c.value.result) ≡ c.value.result = search rules in
    ap Ok (whole ∙ c.value.ensures ∙ ap (signed a.negative) size) ∙ plain_value a.negative digits (some digits (sym c.is_empty.ensures ∙ c.if-is_empty.false)) (sym c.all_digits.ensures ∙ c.if-not-all_digits.false) (omega (arith, c.worth-size.ensures, c.if-size-ge-BEYOND.false))
