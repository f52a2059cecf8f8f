use Rattle.console.proofs.NumberLaws.{digits_only}
use Rattle.console.proofs.number.worth_at.Goals as goal

pub worth-requires : goal.worth-requires
worth-requires c = rw c.first.ensures (digits_only c.unwrap_or.result.now)
