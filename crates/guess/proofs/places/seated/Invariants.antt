use Rattle.guess.proofs.PlaceLaws.{StandingTo}
use Rattle.guess.proofs.places.seated.Given as goal

abbrev pub invariant-loop-i : goal.invariant-loop-i
invariant-loop-i l = StandingTo l.at l.i
