use mathlib.Core.Path.{◌≡◌}
use Prim.Native.Nat.{◌+◌}
use lib.ListN.{length}
use Rattle.units.specs.Table.{numbers_where, overlaid}
use Rattle.network.specs.Elements.{touches}
use Rattle.circuit.specs.Board.{network_on}
use Rattle.circuit.proofs.FillingLaws.{ends_to}
use Rattle.circuit.proofs.Circuit.put_ends.Given as goal

abbrev pub invariant-loop-j : goal.invariant-loop-j
invariant-loop-j l = (l.k ≡ l.at + length (numbers_where (touches (network_on l.initial.self.board l.initial.self.stretches) l.i) l.j)) × (l.self.board ≡ overlaid l.initial.self.board (37 + l.at) (ends_to (network_on l.initial.self.board l.initial.self.stretches) l.i l.j)) × (l.self.stretches ≡ l.initial.self.stretches)
