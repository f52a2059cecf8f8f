use Prim.Native.Nat.{◌≤◌}
use Rattle.block.proofs.StateLaws.{LegalTo}
use Rattle.block.proofs.state.legal.Given as goal

abbrev pub invariant-loop-j : goal.invariant-loop-j
invariant-loop-j l = (l.j ≤ 32) × LegalTo l.circuit.board l.x l.j
