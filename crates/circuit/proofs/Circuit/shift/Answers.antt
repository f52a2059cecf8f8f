use mathlib.Core.Path.{◌≡◌, ◌∙◌}
use native.Mathlib.Omega.{arith}
use Rattle.circuit.proofs.ShiftLaws.{shifted_netted}
use Rattle.circuit.proofs.Circuit.shift.Goals as goal

pub returns : goal.returns
returns c =
    let p = c.requires in
    let l = c.loop-j in
    let e : l.j ≡ c.count-count.result = omega arith in
    shifted_netted _ _ _ _ _ p.0 p.1 (rw (e ∙ c.count-count.ensures) at l.invariant.1)
