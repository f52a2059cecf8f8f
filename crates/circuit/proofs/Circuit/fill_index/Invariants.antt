use mathlib.Core.Path.{◌≡◌}
use lib.ListN.{length}
use Rattle.circuit.specs.Index.{ends_below}
use Rattle.circuit.specs.Board.{network_on}
use Rattle.circuit.proofs.FillingLaws.{Filling}
use Rattle.circuit.proofs.Circuit.fill_index.Given as goal

abbrev pub invariant-loop-i : goal.invariant-loop-i
invariant-loop-i l = (l.k ≡ length (ends_below (network_on l.initial.self.board l.initial.self.stretches) l.i)) × Filling (network_on l.initial.self.board l.initial.self.stretches) l.initial.self.board l.self.board l.i × (l.self.stretches ≡ l.initial.self.stretches)
