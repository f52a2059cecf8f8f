use mathlib.Core.Bool.{false}
use native.Mathlib.Omega.{arith}
use Rattle.std.proofs.lemmas.Result.{err_from_is_err_and}
use Rattle.solve.specs.Sample.{TopTested}
use Rattle.solve.proofs.SampleLaws.{empty_refused, top_refused, sample_accepted, stored_refused}
use Rattle.solve.proofs.sample.voiced.Goals as goal

pub returns-in_err-solve : goal.returns-in_err-solve
returns-in_err-solve c =
    let a = c.args in
    let q = err_from_is_err_and c.from_residual.result c.from_residual.ensures.1 in
    rw (q.1, q.2) (omega arith, empty_refused a.circuit.now.board a.circuit.now.stretches a.given.now a.stored.now c.requires.1 c.in_err-solve.ensures)

pub returns-then-at_top : goal.returns-then-at_top
returns-then-at_top c =
    let a = c.args in
    (omega arith, top_refused a.circuit.now.board a.circuit.now.stretches a.given.now a.stored.now c.requires.1 c.solve.new.at.volts c.in_ok-solve.ensures (rw c.if-at_top.true at c.at_top.ensures))

pub returns-in-Ok : goal.returns-in-Ok
returns-in-Ok c =
    let below : TopTested c.args.circuit.now.board c.solve.new.at.volts false = rw c.if-at_top.false at c.at_top.ensures in
    let a = c.args in
    let new = c.in-Ok.ensures in
    sample_accepted a.circuit.now.board a.circuit.now.stretches a.given.now a.stored.now c.requires.1 c.solve.new.at.volts c.in_ok-solve.ensures below c.advance.new.stored new.0 new.1

pub returns-in-Err : goal.returns-in-Err
returns-in-Err c =
    let below : TopTested c.args.circuit.now.board c.solve.new.at.volts false = rw c.if-at_top.false at c.at_top.ensures in
    let a = c.args in
    let old = c.in-Err.ensures in
    (omega arith, stored_refused a.circuit.now.board a.circuit.now.stretches a.given.now a.stored.now c.requires.1 c.solve.new.at.volts c.in_ok-solve.ensures below c.advance.new.stored old.0 old.1)
