use Rattle.std.proofs.Common.{◌≡◌, ◌∙◌, arith, w64, to_z, of_z, rules}
use Rattle.units.proofs.Clamping.{clamped_ranged}
use Rattle.guess.proofs.PlaceLaws.{standing_more}
use Rattle.guess.proofs.places.seated.Goals as goal

pub loop-i-preserved : goal.loop-i-preserved
loop-i-preserved c =
    let l = c.loop-i in
    let e : to_z w64 (of_z w64 c.clamped.result) ≡ c.clamped.result = search rules in
    standing_more l.at l.i _ (omega arith) l.invariant (rw (e ∙ c.clamped.ensures) (clamped_ranged _))
