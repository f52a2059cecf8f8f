use Rattle.std.proofs.Common.{◌≡◌, w64, to_z, of_z, rules}
use Rattle.units.proofs.Rounding.{exactly}
use Rattle.units.proofs.voltage.Voltage.to_f64.Goals as goal

pub returns : goal.returns
returns c =
    let v = c.args.self.microvolts in
    let e : to_z w64 (of_z w64 v) ≡ v = search rules in
    let is = rw e at c.nearest_i64_to_f64.ensures in
    record { nearest = is; exact = λ h. rw is (exactly v h) }
