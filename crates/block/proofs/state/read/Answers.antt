use mathlib.Core.Path.{◌≡◌}
use native.Mathlib.Omega.{arith}
use Rattle.block.proofs.StateLaws.{read_all}
use Rattle.block.proofs.state.read.Goals as goal

pub returns : goal.returns
returns c =
    let l = c.loop-j in
    let e : l.j ≡ 32 = omega (arith, l.invariant.0) in
    read_all _ _ c.requires (rw e at l.invariant.1)
