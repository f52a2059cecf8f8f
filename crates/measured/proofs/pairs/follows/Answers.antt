use mathlib.Core.Path.{◌≡◌}
use Prim.Native.Nat.{◌+◌}
use native.Mathlib.Numerals.{add-one}
use mir.Syntax.{w64}
use mir.Val.{to_z, of_z}
use borrow.Author.Rules.{rules}
use Rattle.network.specs.Network.{reading}
use Rattle.measured.specs.Measured.{follows}
use Rattle.measured.proofs.pairs.follows.Goals as goal

pub returns : goal.returns
unfolding follows
returns c =
    let s = c.args in
    let volts = s.voltages.now in
    let amps = s.currents.now in
    let j = s.j in
    let volt : to_z w64 (of_z w64 (reading volts j)) ≡ reading volts j = search rules in
    let next-volt : to_z w64 (of_z w64 (reading volts (j + 1))) ≡ reading volts (j + 1) = search rules in
    let amp : to_z w64 (of_z w64 (reading amps j)) ≡ reading amps j = search rules in
    let next-amp : to_z w64 (of_z w64 (reading amps (j + 1))) ≡ reading amps (j + 1) = search rules in
    rw (volt, next-volt, amp, next-amp, add-one j)
