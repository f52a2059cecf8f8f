use mathlib.Core.Path.{◌≡◌}
use mir.Syntax.{w64}
use mir.Val.{to_z, of_z}
use Rattle.solve.proofs.PlaceLaws.{node_is, short_of}
use Rattle.solve.proofs.PlungeLaws.{plunge_down}
use borrow.Author.Rules.{rules}
use Rattle.solve.proofs.plunge.plunge.Goals as goal

pub returns-then-is_high : goal.returns-then-is_high
returns-then-is_high c =
    let i = c.args.i in
    let p = c.put.ensures in
    let e : to_z w64 (of_z w64 c.sunk-u.result) ≡ c.sunk-u.result = search rules in
    let q = rw e at p.1 in
    let high = rw (p.0.netted.each i c.requires.1.1) at (c.is_high-2.ensures c.if-is_high.true) in
    (p.0, rw q (plunge_down c.args.at.now.volts i c.sunk-u.result (rw q at p.0) (short_of c.requires.0 c.requires.1.1) c.requires.1 (rw (node_is c.requires.0 c.requires.1.1) at c.sunk-u.ensures.1) (rw q at high)))
