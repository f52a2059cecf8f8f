use mathlib.Core.Path.{refl}
use native.Mathlib.Omega.{arith}
use Rattle.solve.proofs.SampleLaws.{drive_refused, heard, unheard}
use Rattle.solve.proofs.sample.sample.Goals as goal

pub returns-then-not-drives_legal : goal.returns-then-not-drives_legal
returns-then-not-drives_legal c =
    let a = c.args in
    unheard {v = a.volts.now} (drive_refused a.circuit.now.board a.circuit.now.stretches a.volts.now a.stored.now (rw c.if-not-drives_legal.true at c.drives_legal.ensures)) (λ e. omega (arith, e))

pub returns-in-Ok : goal.returns-in-Ok
returns-in-Ok c = heard c.in-Ok.ensures c.requires.ready.laid.limits.wired refl c.hand_over.ensures

pub returns-in-Err : goal.returns-in-Err
returns-in-Err c = let k = c.in-Err.ensures in unheard k.1 (λ e. omega (arith, e, k.0))
