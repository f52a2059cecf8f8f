use mathlib.Core.Path.{◌≡◌}
use Prim.Native.Nat.{ℕ}
use lib.IntN.{ℤ}
use Rattle.network.specs.Network.{reading}
use Rattle.solve.specs.Search.{Changed}
use Rattle.solve.specs.Visit.{one_up}
use Rattle.solve.proofs.certify.lift.Given as goal

abbrev pub invariant-loop-i : goal.invariant-loop-i
invariant-loop-i l = (l.up.nets ≡ l.initial.up.nets) × Changed (λ (j : ℕ) (u : ℤ). u ≡ one_up (reading l.volts j)) l.circuit.board l.volts l.up.volts l.i
