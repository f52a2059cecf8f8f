use mathlib.Core.Path.{◌≡◌}
use Prim.Native.Nat.{ℕ}
use lib.IntN.{ℤ}
use Rattle.network.specs.Network.{reading}
use Rattle.solve.specs.Search.{Changed}
use Rattle.solve.specs.Answer.{seat_of}
use Rattle.solve.proofs.answer.seat.Given as goal

abbrev pub invariant-loop-i : goal.invariant-loop-i
invariant-loop-i l = Changed (λ (j : ℕ) (u : ℤ). u ≡ seat_of l.top (reading l.given j)) l.circuit.board l.initial.volts l.volts l.i
