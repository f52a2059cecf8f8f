use mathlib.Core.Path.{◌≡◌}
use Prim.Native.Nat.{◌+◌}
use native.Mathlib.Omega.{arith}
use Rattle.units.specs.Table.{overlaid}
use Rattle.opening.proofs.numbers.put.Goals as goal

pub returns : goal.returns
unfolding overlaid
returns c =
    let at = c.args.at in
    let two : at + 1 + 1 ≡ at + 2 = omega arith in
    let three : at + 2 + 1 ≡ at + 3 = omega arith in
    let four : at + 3 + 1 ≡ at + 4 = omega arith in
    let five : at + 4 + 1 ≡ at + 5 = omega arith in
    rw (two, three, four, five)
