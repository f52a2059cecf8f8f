use Rattle.std.proofs.Common.{◌<◌, arith, rules}
use lib.ListN.{length-take}
use Rattle.std.proofs.lemmas.List.{get_or-take}
use Rattle.report.proofs.CurveLaws.{curve_few}
use Rattle.netlist_main.proofs.write_curves.Goals as goal

pub put_curve-end-requires : goal.put_curve-end-requires
put_curve-end-requires g c =
    let parts = c.args.parts in
    let k = c.loop-curve.curve-index in
    let there : k < parts.curve_count = omega (arith, length-take parts.curve_count parts.curves) in
    (rw (get_or-take _ parts.curves k _ there) (curve_few parts k c.requires there), search rules)
