use mathlib.Core.Path.{◌≡◌}
use mir.Syntax.{w64}
use mir.Val.{to_z, of_z}
use Rattle.block.specs.Host.{output_at}
use Rattle.rendering.proofs.RenderingLaws.{lines_none, lines_more}
use borrow.Author.Rules.{rules}
use Rattle.rendering.proofs.lines.put_lines.Goals as goal

pub loop-j-init : goal.loop-j-init
loop-j-init c = lines_none (output_at c.args.outputs.now)

pub loop-j-preserved : goal.loop-j-preserved
loop-j-preserved c =
    let l = c.loop-j in
    let i = c.signed_at in
    let p = c.put_line in
    let z = i.result in
    let e : to_z w64 (of_z w64 z) ≡ z = search rules in
    let line = rw (e, i.ensures) at p.ensures in
    lines_more (output_at c.args.outputs.now) l.j l.invariant line
