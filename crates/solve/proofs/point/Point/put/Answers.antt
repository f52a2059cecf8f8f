use mathlib.Core.Path.{◌≡◌, sym, ◌∙◌, ap}
use lib.IntN.{pos}
use lib.ListN.{set}
use lib.Seq.{set-get_or}
use mir.Syntax.{w64}
use mir.Val.{to_z, of_z}
use mir.Facts.{to_z-of_z}
use borrow.Author.Rules.{rules}
use Rattle.network.specs.Network.{reading}
use Rattle.solve.proofs.point.Point.put.Goals as goal

-- it stands there
pub returns-then-self-i : goal.returns-then-self-i
returns-then-self-i c =
    let l = c.args.self.now.volts in
    let e : to_z w64 (of_z w64 (reading l c.args.i)) ≡ reading l c.args.i = search rules in
    let here : c.args.v ≡ reading l c.args.i = sym (sym e ∙ ap (to_z w64) c.if-self-i.true ∙ to_z-of_z c.ranges.v) in
    (c.requires.0, sym (ap (set l c.args.i) here ∙ set-get_or l c.args.i (pos 0)))
