use Rattle.std.proofs.Common.{◌≡◌, ◌+◌, ◌-◌, ◌≤◌, length, drop, Some}
use Rattle.console.specs.Words.{lines}
use Rattle.curve.specs.Text.{told_by, answer}
use Rattle.curve.specs.Kept.{told_with}
use Rattle.curve.proofs.pairs.read.Given as goal

abbrev pub invariant-loop-at : goal.invariant-loop-at
invariant-loop-at l = (l.at ≤ length l.text + 1) × (answer (told_with (Some l.kept) (told_by (lines (drop l.at l.text)))) ≡ answer (told_by (lines l.text)))

abbrev pub decreases-loop-at : goal.decreases-loop-at
decreases-loop-at l = length l.text - l.at
