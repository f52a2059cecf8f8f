use Prim.Native.Nat.{ℕ, ◌^◌, ◌≤◌, ◌<◌}
use lib.IntN.{nat_abs, pos}
use lib.ListN.{get_or}
use Rattle.bench_circuit.proofs.ask.all_in_range.Given as goal

abbrev pub invariant-loop-i : goal.invariant-loop-i
invariant-loop-i l = (k : ℕ) → k < l.i → nat_abs (get_or l.volts k (pos 0)) ≤ 2 ^ 25
