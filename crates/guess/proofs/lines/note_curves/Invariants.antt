use Rattle.std.proofs.Common.{◌≤◌}
use Rattle.guess.proofs.lines.note_curves.Given as goal

abbrev pub invariant-loop-j : goal.invariant-loop-j
invariant-loop-j l = l.n ≤ l.j
