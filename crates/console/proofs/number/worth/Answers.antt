use Rattle.std.proofs.Common.{length, sym, arith}
use native.Mathlib.Nat.{min-eq_right}
use Rattle.console.proofs.NumberLaws.{worth_none, worth_more, worth_beyond, digit_says}
use Rattle.console.proofs.number.worth.Goals as goal

pub loop-digit-init : goal.loop-digit-init
loop-digit-init c = sym (worth_none _)

pub returns-then-n-gt-TENTH : goal.returns-then-n-gt-TENTH
returns-then-n-gt-TENTH c =
    let l = c.loop-digit in
    let digits = c.args.digits.now in
    sym (min-eq_right (worth_beyond digits l.digit-index (length digits) c.loop-digit-test.true (omega (arith, l.invariant, c.if-n-gt-TENTH.true))))

pub overflow_sub-digit : goal.overflow_sub-digit
overflow_sub-digit c = digit_says c.args.digits.now c.loop-digit.digit-index c.requires c.loop-digit-test.true

pub loop-digit-preserved : goal.loop-digit-preserved
loop-digit-preserved c = let l = c.loop-digit in rw (l.invariant, c.from.ensures) (sym (worth_more c.args.digits.now l.digit-index))
