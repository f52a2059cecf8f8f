use Rattle.std.proofs.Common.{◌≡◌, ◌+◌, ◌*◌, arith, to_z-of_z}
use Rattle.units.specs.Table.{overlaid}
use Rattle.stretch.proofs.drawing.put.Goals as goal

pub returns : goal.returns
unfolding overlaid
returns c =
    let next : 3 * c.args.row + 1 + 1 ≡ 3 * c.args.row + 2 = omega arith in
    rw (next, to_z-of_z c.ranges.breakpoint, to_z-of_z c.ranges.slope, to_z-of_z c.ranges.current)
