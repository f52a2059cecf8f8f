use mathlib.Core.Path.{refl}
use native.Mathlib.Omega.{arith}
use Rattle.block.proofs.StateLaws.{if_passed, if_failed}
use Rattle.block.proofs.PlayLaws.{state_no, lengths_no, playable_first, room_is, ran_plays}
use Rattle.block.proofs.play.play.Goals as goal

pub returns-then-not-legal : goal.returns-then-not-legal
returns-then-not-legal c =
    let a = c.args in
    let o = c.fill in
    let l = c.legal in
    rw (c.refused.ensures.0, c.refused.ensures.1) record { plays = state_no a.parts c.requires.0 c.requires.1 o.new.circuit.board o.new.circuit.stretches o.ensures.stretches o.ensures.board a.x.now a.n a.drives.now a.outputs.now (if_failed l.result (l.ensures o.new.circuit.stretches) (c.if-not-legal.true)); few = omega arith }

pub returns-then-not-fit : goal.returns-then-not-fit
returns-then-not-fit c =
    let a = c.args in
    let o = c.fill in
    let l = c.legal in
    let legal = if_passed l.result (l.ensures o.new.circuit.stretches) (c.if-not-legal.false) in
    let f = c.fit in
    rw (c.refused-then-not-fit.ensures.0, c.refused-then-not-fit.ensures.1) record { plays = lengths_no a.parts c.requires.0 c.requires.1 o.new.circuit.board o.new.circuit.stretches o.ensures.stretches o.ensures.board a.x.now a.n a.drives.now a.outputs.now legal (if_failed f.result f.ensures (c.if-not-fit.true)); few = omega arith }

pub run-requires : goal.run-requires
run-requires c =
    let a = c.args in
    let o = c.fill in
    let l = c.legal in
    let legal = if_passed l.result (l.ensures o.new.circuit.stretches) (c.if-not-legal.false) in
    let f = c.fit in
    let fit = if_passed f.result f.ensures (c.if-not-fit.false) in (
      playable_first a.parts c.requires.0 c.requires.1 o.new.circuit.board o.new.circuit.stretches o.ensures.stretches o.ensures.board a.x.now a.n a.drives.now a.outputs.now legal,
      room_is a.parts c.requires.0 c.requires.1 o.new.circuit.board o.new.circuit.stretches o.ensures.stretches o.ensures.board a.x.now a.n a.drives.now a.outputs.now fit,
      refl,
    )

pub returns : goal.returns
returns c =
    let a = c.args in
    let o = c.fill in
    let l = c.legal in
    let legal = if_passed l.result (l.ensures o.new.circuit.stretches) (c.if-not-legal.false) in
    let f = c.fit in
    let fit = if_passed f.result f.ensures (c.if-not-fit.false) in
    let p = ran_plays a.parts c.requires.0 c.requires.1 o.new.circuit.board o.new.circuit.stretches o.ensures.stretches o.ensures.board a.x.now a.n a.drives.now a.outputs.now legal fit c.run.ensures in
    record { plays = p.0; few = p.1 }
