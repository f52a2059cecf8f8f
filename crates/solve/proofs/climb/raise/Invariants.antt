use mathlib.Core.Path.{◌≡◌}
use Prim.Native.Nat.{ℕ, ◌≤◌}
use lib.IntN.{ℤ}
use lib.Signed.{◌≤ℤ◌}
use Rattle.network.specs.Network.{reading}
use Rattle.solve.specs.Search.{Searching, Changed}
use Rattle.solve.proofs.climb.raise.Given as goal

abbrev pub invariant-loop-i : goal.invariant-loop-i
invariant-loop-i l = Searching l.circuit.board l.circuit.stretches l.stored l.high.volts l.high.nets × Changed (λ (j : ℕ) (u : ℤ). reading l.initial.high.volts j ≤ℤ u) l.circuit.board l.initial.high.volts l.high.volts l.i × ((j : ℕ) → l.i ≤ j → reading l.high.volts j ≡ reading l.initial.high.volts j)
