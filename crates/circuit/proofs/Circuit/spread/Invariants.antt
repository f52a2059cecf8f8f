use mathlib.Core.Path.{◌≡◌}
use Prim.Native.Nat.{◌+◌, ◌≤◌}
use lib.ListN.{length}
use Rattle.circuit.specs.Board.{start_on}
use Rattle.circuit.proofs.NetLaws.{walked, OthersWalked}
use Rattle.circuit.proofs.Circuit.spread.Given as goal

abbrev pub invariant-loop-k : goal.invariant-loop-k
invariant-loop-k l = (start_on l.self.board l.i ≤ l.k) × (l.k ≤ l.k-end) × (l.k-end ≡ start_on l.self.board (l.i + 1)) × (length l.nets ≡ 16) × (l.sum ≡ walked l.self.board l.self.stretches l.stored l.volts l.i l.v l.k l.i) × OthersWalked l.self.board l.self.stretches l.stored l.volts l.i l.v l.k l.nets
