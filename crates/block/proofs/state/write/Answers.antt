use mathlib.Core.Path.{◌≡◌, ◌∙◌}
use native.Mathlib.Omega.{arith}
use mir.Syntax.{w64}
use mir.Val.{to_z, of_z}
use borrow.Author.Rules.{rules}
use Rattle.network.specs.Network.{reading}
use Rattle.block.proofs.StateLaws.{write_none, write_more}
use Rattle.block.proofs.state.write.Goals as goal

pub loop-j-init : goal.loop-j-init
loop-j-init c = (search rules, write_none _ _)

pub loop-j-preserved : goal.loop-j-preserved
loop-j-preserved c =
    let l = c.loop-j in
    let z = reading c.args.x.now l.j in
    let e : to_z w64 (of_z w64 z) ≡ z = search rules in
    (omega (arith, c.loop-j-test.true), (rw (l.invariant.1, e) at c.put_signed.ensures) ∙ write_more c.args.state.now c.args.x.now l.j)
