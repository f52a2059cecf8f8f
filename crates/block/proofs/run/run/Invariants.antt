use mathlib.Core.Path.{◌≡◌}
use Prim.Native.Nat.{ℕ, ◌≤◌}
use lib.ListN.{length}
use Rattle.circuit.specs.Board.{driven_on, network_on}
use Rattle.block.specs.Block.{drive_at, Run}
use Rattle.solve.specs.Sample.{Playable}
use Rattle.block.specs.Playing.{state_of}
use Rattle.block.proofs.run.run.Given as goal

abbrev pub invariant-loop-j : goal.invariant-loop-j
invariant-loop-j l = (l.j ≤ l.n) × Run (λ (j : ℕ). network_on l.circuit.board l.circuit.stretches) l.output (drive_at l.drives (driven_on l.circuit.board)) (state_of l.initial.x) l.initial.outputs l.j (state_of l.x) l.outputs × Playable l.circuit.board l.circuit.stretches l.x × (length l.volts ≡ 16)
