use Rattle.solve.proofs.AnswerLaws.{seated_evaluable, seated_searching, climbed, start_nothing}
use Rattle.solve.proofs.answer.solve.Goals as goal

pub net_currents-at-requires : goal.net_currents-at-requires
net_currents-at-requires c = seated_evaluable c.seat.ensures c.requires.0

pub settle-requires : goal.settle-requires
settle-requires c = seated_searching c.seat.ensures c.requires.0 c.net_currents-at.ensures

pub returns-in-Ok : goal.returns-in-Ok
returns-in-Ok c =
    let a = c.args in
    climbed a.circuit.now.board a.circuit.now.stretches a.stored.now a.given.now c.climb.new.at.volts c.seat.ensures c.in-Ok.ensures.1.0 c.climb.ensures

pub is_start-requires : goal.is_start-requires
is_start-requires c = seated_evaluable c.seat-in-Err.ensures c.requires.0

pub returns-then-is_start : goal.returns-then-is_start
returns-then-is_start c =
    let a = c.args in
    start_nothing a.circuit.now.board a.circuit.now.stretches a.stored.now a.given.now c.seat-in-Err.new.volts c.seat.ensures c.requires.0 c.seat-in-Err.ensures (c.is_start.ensures c.if-is_start.true) c.in-Err.ensures.1
