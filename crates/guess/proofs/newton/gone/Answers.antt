use Rattle.std.proofs.Common.{◌≡◌, w64, to_z, of_z, rules}
use Rattle.units.proofs.Clamping.{clamped_ranged}
use Rattle.guess.proofs.newton.gone.Goals as goal

pub returns : goal.returns
returns c =
    let e : to_z w64 (of_z w64 c.clamped.result) ≡ c.clamped.result = search rules in
    rw (e, c.clamped.ensures) (clamped_ranged _)
