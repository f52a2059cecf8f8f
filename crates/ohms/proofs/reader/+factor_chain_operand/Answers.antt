-- A factor's answers are right by the laws of FoundLaws; a chain's first value, its next and its last by those of ReadyLaws. Assumes nothing.
use Rattle.std.proofs.lemmas.List.{length-drop}
use Rattle.std.proofs.lemmas.List.Sums.{prefix_len-le-length}
use Rattle.std.proofs.Common.{◌<◌, drop, sym, ap, ◌∙◌, inl, inr, arith}
use Rattle.console.specs.Number.{worth_at}
use Rattle.console.proofs.NumberLaws.{digits_only}
use Rattle.console.specs.Words.{belongs, past}
use Rattle.console.specs.declared.words.Run.TheVariants.{Digits}
use Rattle.ohms.specs.Worth.{stage}
use Rattle.ohms.specs.Found.{Operand}
use Rattle.ohms.proofs.FactorLaws.{operand_reads}
use Rattle.ohms.proofs.FoundLaws.{stage_far, written_there, factor_written, factor_unopened, factor_empty, factor_unclosed, factor_bracketed}
use Rattle.ohms.proofs.ReadyLaws.{ready_first, no_first, ready_more, no_next, ready_done}
use Rattle.ohms.proofs.reader.+factor_chain_operand.Goals.{factor-then-room-eq0-via-then-room-eq0, factor-then-room-eq0-via-else-room-eq0+then-byte_at-ne40}
use Rattle.ohms.proofs.reader.+factor_chain_operand.Goals as goal

pub factor-slice_bounds-worth-end : goal.factor-slice_bounds-worth-end
factor-slice_bounds-worth-end t c =
    let text = c.args.text.now in
    let at = drop c.args.at text in
    omega (arith, c.past-end.ensures, c.if-at-end.true, prefix_len-le-length (belongs Digits) at, length-drop c.args.at text)

pub factor-worth-requires : goal.factor-worth-requires
factor-worth-requires t c =
    let text = c.args.text.now in
    rw (written_there text c.args.at c.past-end.result c.past-end.ensures) (digits_only (drop c.args.at text))

pub factor-returns-then-at-end : goal.factor-returns-then-at-end
factor-returns-then-at-end t c =
    let a = c.args in
    let text = a.text.now in
    let some : a.at < past Digits text a.at = rw c.past-end.ensures at c.if-at-end.true in
    let worth = c.stage.ensures ∙ ap stage (c.worth.ensures ∙ rw (written_there text a.at c.past-end.result c.past-end.ensures)) ∙ stage_far (worth_at text a.at) in
    rw (c.past.ensures, c.past-end.ensures) (factor_written text a.room a.at _ some worth)

pub factor-returns-then-room-eq0 : goal.factor-returns-then-room-eq0
factor-returns-then-room-eq0 t c =
    let a = c.args in
    let none = rw c.past-end.ensures at c.if-at-end.false in
    elim c.then-room-eq0.branch [
      | factor-then-room-eq0-via-then-room-eq0 w ↦ factor_unopened a.text.now a.at none a.room (inl w.if-room-eq0.true)
      | factor-then-room-eq0-via-else-room-eq0+then-byte_at-ne40 w ↦ factor_unopened a.text.now a.at none a.room (inr (λ e. w.if-byte_at-ne40.true (w.byte_at.ensures ∙ e)))
    ]

pub factor-returns-in_err-inside : goal.factor-returns-in_err-inside
factor-returns-in_err-inside t c =
    let a = c.args in
    let none = rw c.past-end.ensures at c.if-at-end.false in
    rw c.from_residual.ensures (factor_empty a.text.now a.at none a.room (omega arith) (rw c.past-opened.ensures at c.in_err-inside.ensures))

pub factor-returns-then-byte_at-ne41 : goal.factor-returns-then-byte_at-ne41
factor-returns-then-byte_at-ne41 t c =
    let a = c.args in
    let none = rw c.past-end.ensures at c.if-at-end.false in
    let inside = c.in_ok-inside.inside in
    factor_unclosed a.text.now a.at none inside.end inside.worth a.room (omega arith) (rw c.past-opened.ensures at c.in_ok-inside.ensures) (λ e. c.if-byte_at-ne41.true (c.byte_at-2.ensures ∙ e))

pub factor-returns : goal.factor-returns
factor-returns t c =
    let a = c.args in
    let none = rw c.past-end.ensures at c.if-at-end.false in
    let inside = c.in_ok-inside.inside in
    let opened = sym c.byte_at.ensures ∙ c.if-byte_at-ne40.false in
    let closed = sym c.byte_at-2.ensures ∙ c.if-byte_at-ne41.false in
    rw c.past-2.ensures (factor_bracketed a.text.now a.at none inside.end inside.worth a.room (omega arith) (rw c.past-opened.ensures at c.in_ok-inside.ensures) opened closed)

pub operand-returns-in-Plus : goal.operand-returns-in-Plus
operand-returns-in-Plus t c = rw c.in-Plus.is c.chain.ensures

pub operand-returns-in-Bars : goal.operand-returns-in-Bars
operand-returns-in-Bars t c = rw c.in-Bars.is c.factor.ensures

pub chain-returns-in_err-found : goal.chain-returns-in_err-found
chain-returns-in_err-found t c =
    let a = c.args in
    let text = a.text.now in
    rw c.from_residual.ensures (no_first a.sign (Operand a.sign text a.room) text (operand_reads a.sign text a.room) c.in_err-found.ensures)

pub chain-loop-sign-init : goal.chain-loop-sign-init
chain-loop-sign-init t c =
    let a = c.args in
    let text = a.text.now in
    ready_first a.sign (Operand a.sign text a.room) text (operand_reads a.sign text a.room) c.in_ok-found.ensures

pub chain-returns-in_err-next : goal.chain-returns-in_err-next
chain-returns-in_err-next t c =
    let a = c.args in
    let text = a.text.now in
    let on = sym c.stands.ensures ∙ c.loop-sign-test.true in
    rw c.from_residual-in_err-next.ensures (no_next a.sign (Operand a.sign text a.room) text (operand_reads a.sign text a.room) c.loop-sign.invariant on (rw c.after.ensures at c.in_err-next.ensures))

pub chain-loop-sign-smaller : goal.chain-loop-sign-smaller
chain-loop-sign-smaller t c =
    let a = c.args in
    let text = a.text.now in
    let on = sym c.stands.ensures ∙ c.loop-sign-test.true in
    let one = operand_reads a.sign text a.room in
    let next = rw c.after.ensures at c.in_ok-next.ensures in
    omega (arith, c.loop-sign.invariant.within, one.longer next, one.within next)

pub chain-loop-sign-preserved : goal.chain-loop-sign-preserved
chain-loop-sign-preserved t c =
    let a = c.args in
    let text = a.text.now in
    let on = sym c.stands.ensures ∙ c.loop-sign-test.true in
    rw c.joined.ensures (ready_more a.sign (Operand a.sign text a.room) text (operand_reads a.sign text a.room) c.loop-sign.invariant on (rw c.after.ensures at c.in_ok-next.ensures))

pub chain-returns : goal.chain-returns
chain-returns t c =
    let a = c.args in
    let text = a.text.now in
    ready_done a.sign (Operand a.sign text a.room) text (operand_reads a.sign text a.room) c.loop-sign.invariant (sym c.stands.ensures ∙ c.loop-sign-test.false)
