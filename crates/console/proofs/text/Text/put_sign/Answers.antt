use Rattle.std.proofs.Common.{to_z-of_z}
use Rattle.console.proofs.TextLaws.{puts_none, sign_above}
use Rattle.console.proofs.text.Text.put_sign.Goals as goal

pub returns-else-z-lt0 : goal.returns-else-z-lt0
returns-else-z-lt0 c = rw (sign_above c.args.z (rw (to_z-of_z c.ranges.z) at c.if-z-lt0.false)) puts_none
