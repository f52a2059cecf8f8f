use mathlib.Core.Path.{◌≡◌, ◌∙◌}
use lib.ListN.{length}
use borrow.Author.Rules.{rules}
use Rattle.image.proofs.Opening.{opened_sound}
use Rattle.block.specs.Call.{bytes_after}
use Rattle.block.specs.Playing.{state_of}
use Rattle.block.proofs.call.krtovalin_block.Goals.{then-ending-ne0, else-ending-ne0}
use Rattle.block.proofs.CallLaws.{after_some, after_none, called_refused, called_misfit, called}
use Rattle.block.proofs.call.krtovalin_block.Goals as goal

pub returns-in-Err : goal.returns-in-Err
returns-in-Err c =
    let a = c.args in
    rw (c.packed.ensures, c.refused.ensures.0, c.refused.ensures.1) (called_refused a.image.now a.state.now a.n a.drives.now a.outputs.now c.in-Err.number c.in-Err.ensures)

pub returns-then-state-ne256 : goal.returns-then-state-ne256
returns-then-state-ne256 c =
    let a = c.args in
    let j = c.in-Ok in
    rw (c.packed-then-state-ne256.ensures, c.refused-then-state-ne256.ensures.0, c.refused-then-state-ne256.ensures.1) (called_misfit a.image.now a.state.now a.n a.drives.now a.outputs.now j.parts j.ensures c.if-state-ne256.true)

pub play-ending-requires : goal.play-ending-requires
play-ending-requires c =
    let j = c.in-Ok in
    let o = j.ensures in
    let long : length c.read-x.result ≡ 32 = search rules in
    ((opened_sound _ j.parts o.0).1, o.1, long)

pub returns : goal.returns
returns c =
    let a = c.args in
    let j = c.in-Ok in
    let p = c.play-ending in
    let y = state_of p.new.x in
    let left : c.if-ending-ne0.state ≡ bytes_after a.state.now y p.result.count = elim c.if-ending-ne0.branch [
      | then-ending-ne0 w ↦ w.state-is ∙ w.write.ensures ∙ after_some a.state.now y _ w.if-ending-ne0.true
      | else-ending-ne0 w ↦ w.state-is ∙ after_none a.state.now y _ w.if-ending-ne0.false
    ] in
    rw c.packed-2.ensures (called a.image.now a.state.now a.n a.drives.now a.outputs.now j.parts j.ensures _ p.result.number p.result.count c.read-x.result p.new.x p.new.outputs c.read-x.ensures p.ensures.plays left)
