use mathlib.Core.Path.{◌≡◌, ap}
use native.Mathlib.Omega.{arith}
use mir.Syntax.{w64}
use mir.Val.{to_z, of_z}
use Rattle.network.specs.Network.{reading}
use Rattle.block.specs.Block.{start}
use Rattle.units.specs.Number.{number_of}
use Rattle.block.specs.Playing.{all}
use Rattle.units.proofs.Numbers.{done_only}
use Rattle.block.proofs.SampleLaws.{playable_on, passed_is, refused_is, run_more, run_short}
use borrow.Author.Rules.{rules}
use Rattle.block.proofs.run.run.Goals as goal

pub loop-j-init : goal.loop-j-init
loop-j-init c =
    (omega arith, start, c.requires.0, c.requires.2)

pub returns-in_default : goal.returns-in_default
returns-in_default c =
    run_short c.loop-j.invariant.1 c.loop-j-test.true (refused_is c.next.ensures.0 (λ e. c.in_default.not-Done (done_only _ e)))

pub loop-j-preserved : goal.loop-j-preserved
loop-j-preserved c =
    let none : number_of c.next.result ≡ 0 = ap number_of c.in-Done.is in
    let l = c.loop-j in
    let v = c.next.new.volts in
    let z = reading v c.args.output in
    let f : to_z w64 (of_z w64 z) ≡ z = search rules in
    let q = passed_is c.next.ensures.0 none in
    (omega (arith, c.loop-j-test.true), rw ((rw f at c.put_signed.ensures)) (run_more l.invariant.1 q), playable_on l.invariant.2 q, c.next.ensures.1)

pub returns : goal.returns
returns c =
    let l = c.loop-j in
    let n = c.args.n in
    let e : l.j ≡ n = omega (arith, l.invariant.0) in
    all (rw e at l.invariant.1)
