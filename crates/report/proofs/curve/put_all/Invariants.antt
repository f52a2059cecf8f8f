use Prim.Native.Nat.{ℕ, ◌+◌, ◌*◌, ◌≤◌}
use mathlib.Core.Path.{◌≡◌}
use lib.ListN.{length}
use lib.IntN.{ℤ}
use Rattle.console.specs.Text.{Puts}
use Rattle.report.specs.Curve.{spaced_all, ReadAs}
use Rattle.report.proofs.curve.put_all.Given as goal

abbrev pub invariant-loop-number : goal.invariant-loop-number
invariant-loop-number g l =
    (l.text.end ≤ l.initial.text.end + 22 * l.number-index)
    × (length l.text.buffer.now ≡ length l.initial.text.buffer.now)
    × ((z : ℕ → ℤ) → ReadAs g.T.Into.converts l.numbers z → Puts (spaced_all z l.number-index) (22 * l.number-index) l.initial.text l.text)
