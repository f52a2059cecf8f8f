use mathlib.Core.Path.{refl, ◌∙◌}
use native.Mathlib.Omega.{arith}
use Rattle.writing.specs.Image.{slope_bytes}
use Rattle.writing.proofs.Overlaying.{written_is, turn_none, turn_more, slopes_length}
use Rattle.writing.proofs.curve.put_all.Goals as goal

pub loop-j-init : goal.loop-j-init
loop-j-init c = turn_none _ _ _

pub loop-j-preserved : goal.loop-j-preserved
loop-j-preserved c =
    let l = c.loop-j in
    turn_more (slope_bytes c.args.numbers.now) c.args.buffer.now c.args.at l.j l.invariant (c.put_unsigned.ensures ∙ written_is 4 _ _ _) (omega (arith, slopes_length c.args.numbers.now l.j)) refl
