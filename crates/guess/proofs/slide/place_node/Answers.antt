use Rattle.std.proofs.Common.{◌≡◌, sym, arith, w64, to_z, of_z, rules}
use Rattle.guess.proofs.PlaceLaws.{standing_set}
use Rattle.guess.proofs.NumberLaws.{nearest_ranged}
use Rattle.guess.proofs.slide.place_node.Goals as goal

pub returns-in-Some : goal.returns-in-Some
returns-in-Some c =
    let v = c.in-Some.v in
    let e : to_z w64 (of_z w64 v.microvolts) ≡ v.microvolts = search rules in
    standing_set c.args.circuit.now.board c.args.volts.now c.args.node _ (omega (arith, c.requires.1)) c.requires.0 (rw e (nearest_ranged _ v (sym c.in-Some.ensures)))
