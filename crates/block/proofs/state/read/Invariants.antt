use Prim.Native.Nat.{◌≤◌}
use Rattle.block.proofs.StateLaws.{ReadTo}
use Rattle.block.proofs.state.read.Given as goal

abbrev pub invariant-loop-j : goal.invariant-loop-j
invariant-loop-j l = (l.j ≤ 32) × ReadTo l.state l.j l.x
