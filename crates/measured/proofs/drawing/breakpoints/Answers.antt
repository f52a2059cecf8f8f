use mathlib.Core.Path.{◌≡◌, ◌∙◌}
use native.Mathlib.Omega.{arith}
use lib.IntN.{pos}
use mir.Facts.{to_z-of_z}
use mir.Syntax.{w32, w64}
use mir.Val.{to_z, of_z, SFits}
use borrow.Author.Rules.{rules}
use Rattle.units.proofs.Tables.{padded_none, padded_more}
use Rattle.units.proofs.Machine.{fits_half}
use Rattle.network.specs.Network.{reading, breakpoint_limit}
use Rattle.measured.proofs.drawing.breakpoints.Goals as goal

pub loop-j-init : goal.loop-j-init
loop-j-init c = padded_none (pos 0) 16 _

-- a voltage within a breakpoint's limit has 32 bits
narrow : (c : goal.After-breakpoints-1) → SFits w32 (to_z w64 (of_z w64 (reading c.args.voltages.now c.loop-j.j)))
narrow c =
    let z = reading c.args.voltages.now c.loop-j.j in
    let e : to_z w64 (of_z w64 z) ≡ z = search rules in
    rw e (fits_half z breakpoint_limit (c.requires.2 c.loop-j.j) (omega arith))

pub loop-j-preserved : goal.loop-j-preserved
loop-j-preserved c =
    let l = c.loop-j in
    let a = c.args in
    let e : to_z w64 (of_z w64 (reading a.voltages.now l.j)) ≡ reading a.voltages.now l.j = search rules in
    rw l.invariant (padded_more (pos 0) 16 _ l.j _ (omega arith) (to_z-of_z (narrow c) ∙ e))
