use Rattle.solve.proofs.AnswerLaws.{seated_evaluable, seated_searching, top_solved}
use Rattle.solve.proofs.answer.from_top.Goals as goal

pub net_currents-at-requires : goal.net_currents-at-requires
net_currents-at-requires c = seated_evaluable c.seat.ensures c.requires.0

pub settle-requires : goal.settle-requires
settle-requires c = seated_searching c.seat.ensures c.requires.0 c.net_currents-at.ensures

pub returns : goal.returns
returns c =
    let a = c.args in
    top_solved a.circuit.now.board a.circuit.now.stretches a.stored.now a.given.now c.settle.new.at.volts c.seat.ensures c.settle.result c.settle.ensures.1
