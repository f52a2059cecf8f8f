use Prim.Native.Nat.{ℕ}
use lib.IntN.{ℤ}
use Rattle.network.specs.Network.{reading}
use Rattle.solve.specs.Search.{Searching, Changed}
use Rattle.solve.specs.Leap.{Reached}
use Rattle.solve.proofs.leap.lead.Given as goal

abbrev pub invariant-loop-i : goal.invariant-loop-i
invariant-loop-i l = Searching l.circuit.board l.circuit.stretches l.stored l.far.volts l.far.nets × Changed (λ (j : ℕ) (u : ℤ). Reached (reading l.volts j) u) l.circuit.board l.volts l.far.volts l.i
