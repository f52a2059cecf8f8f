use mathlib.Core.Path.{◌≡◌}
use mathlib.Core.Bool.{false}
use native.Mathlib.Omega.{arith}
use mir.Syntax.{w64}
use mir.Val.{to_z, of_z}
use borrow.Author.Rules.{rules}
use Rattle.network.specs.Network.{reading}
use Rattle.circuit.specs.Board.{kind_on}
use Rattle.block.specs.Block.{Decides, LegalAt}
use Rattle.block.proofs.StateLaws.{legal_all, legal_at}
use Rattle.block.proofs.state.legal.Goals as goal

pub returns-then-not-legal_at : goal.returns-then-not-legal_at
returns-then-not-legal_at c =
    let test : Decides c.legal_at.result (LegalAt (kind_on c.args.circuit.now.board c.loop-j.j) (reading c.args.x.now c.loop-j.j)) = let z = reading c.args.x.now c.loop-j.j in let e : to_z w64 (of_z w64 z) ≡ z = search rules in rw (e, c.kind.ensures) at c.legal_at.ensures in
    let refuted : c.legal_at.result ≡ false → LegalAt (kind_on c.args.circuit.now.board c.loop-j.j) (reading c.args.x.now c.loop-j.j) → ⊥ = λ e. rw e at test in
    λ stretches legal.
    let l = c.loop-j in
    refuted (c.if-not-legal_at.true) (legal_at c.args.circuit.now.board stretches c.args.x.now l.j (omega (arith, c.loop-j-test.true)) legal)

pub returns : goal.returns
returns c stretches =
    let l = c.loop-j in
    let e : l.j ≡ 32 = omega (arith, l.invariant.0) in
    legal_all c.args.circuit.now.board stretches c.args.x.now c.requires (rw e at l.invariant.1)
