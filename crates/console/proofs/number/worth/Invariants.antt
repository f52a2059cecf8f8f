use Rattle.std.proofs.Common.{◌≡◌}
use Rattle.console.specs.Number.{worth}
use Rattle.console.proofs.number.worth.Given as goal

abbrev pub invariant-loop-digit : goal.invariant-loop-digit
invariant-loop-digit l = l.n ≡ worth l.digits l.digit-index
