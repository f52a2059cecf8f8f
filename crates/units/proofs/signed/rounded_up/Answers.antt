use Rattle.std.proofs.Common.{rules}
use Rattle.units.specs.Integer.{rounded_up}
use Rattle.units.proofs.signed.rounded_up.Goals as goal

-- src/signed.rt:65:1
pub returns : goal.returns
unfolding rounded_up
returns c = search rules
