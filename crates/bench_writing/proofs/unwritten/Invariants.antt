-- A store keeps the length.
use Rattle.std.proofs.Common.{◌≡◌, length}
use Rattle.bench_writing.proofs.unwritten.Given as goal

abbrev pub invariant-loop-i : goal.invariant-loop-i
invariant-loop-i l = 2048 ≡ length l.buffer
