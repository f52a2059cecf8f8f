use Prim.Native.Nat.{ℕ, ◌^◌, ◌≤◌}
use lib.IntN.{ℤ}
use Rattle.network.specs.Network.{reading}
use Rattle.network.specs.Sample.{Legal, Low}
use Rattle.network.specs.Search.{depth}
use Rattle.circuit.specs.Board.{network_on}
use Rattle.solve.specs.Search.{Searching}
use Rattle.solve.proofs.climb.climb.Given as goal

abbrev pub invariant-loop-up : goal.invariant-loop-up
invariant-loop-up l = (l.reach ≤ 2 ^ 26) × Searching l.circuit.board l.circuit.stretches l.stored l.at.volts l.at.nets × Low (network_on l.circuit.board l.circuit.stretches) (reading l.stored) (reading l.at.volts) × ((d : ℕ → ℤ) → Legal (network_on l.circuit.board l.circuit.stretches) d (reading l.initial.at.volts) → Legal (network_on l.circuit.board l.circuit.stretches) d (reading l.at.volts))

abbrev pub decreases-loop-up : goal.decreases-loop-up
decreases-loop-up l = depth (network_on l.circuit.board l.circuit.stretches) (reading l.at.volts)
