use Prim.Native.Nat.{ℕ, ◌^◌, ◌≤◌, ◌<◌}
use lib.IntN.{nat_abs, pos}
use lib.ListN.{get_or}
use Rattle.bench_circuit.proofs.ask.all_kept.Given as goal

abbrev pub invariant-loop-j : goal.invariant-loop-j
invariant-loop-j l = (k : ℕ) → k < l.j → nat_abs (get_or l.stored k (pos 0)) ≤ 2 ^ 57
