-- Each turn adds two at the most.
use Rattle.std.proofs.Common.{◌*◌, ◌≤◌}
use Rattle.bench_units.proofs.round_trips.Given as goal

abbrev pub invariant-loop-k : goal.invariant-loop-k
invariant-loop-k l = l.back ≤ 2 * l.k
