use Prim.Native.Nat.{◌-◌, ◌^◌, ◌≤◌}
use Rattle.solve.specs.Search.{Searching, Down}
use Rattle.solve.proofs.leap.leaps.Given as goal

abbrev pub invariant-loop-m : goal.invariant-loop-m
invariant-loop-m l = (1 ≤ l.m) × (l.m ≤ 2 ^ 27) × Searching l.circuit.board l.circuit.stretches l.stored l.at.volts l.at.nets × Down l.circuit.board l.circuit.stretches l.stored l.initial.at.volts l.at.volts

abbrev pub decreases-loop-m : goal.decreases-loop-m
decreases-loop-m l = 2 ^ 27 - l.m
