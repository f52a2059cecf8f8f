use mathlib.Core.Path.{◌∙◌, ap}
use lib.ListN.{length}
use Rattle.image.proofs.Opening.{opened_sound}
use Rattle.block.specs.Block.{plays-on}
use Rattle.block.proofs.call.block.Goals as goal

pub returns-in-Err : goal.returns-in-Err
returns-in-Err c = c.in-Err.ensures.1 _ _ _ _

pub play-ending-requires : goal.play-ending-requires
play-ending-requires c =
    let o = c.in-Ok.ensures in
    let k = c.known-x.ensures in
    ((opened_sound _ _ o.0).1, o.1, ap length k.0 ∙ k.1)

pub returns : goal.returns
returns c =
    let o = c.in-Ok.ensures in
    let k = c.known-x.ensures.0 in
    plays-on o.0 o.1 (rw k at c.play-ending.ensures.plays)
