use Rattle.std.specs.Result.{IsOk}
use Rattle.solve.proofs.ClimbLaws.{Turned, turned}
use Rattle.solve.proofs.climb.climb.Goals as goal

pub returns-then-certify : goal.returns-then-certify
returns-then-certify c = λ d legal. let h = c.loop-up.invariant in let k = rw c.if-certify.true at c.certify.ensures in k.1 d (h.3 d legal) h.2

-- what the turn came to
turn : (c : goal.After-settle) → IsOk c.settle.result × Turned c.args.circuit.now.board c.args.circuit.now.stretches c.args.stored.now c.loop-up.at.volts c.settle.new.at.volts
turn c =
    let h = c.loop-up.invariant in
    let k = c.raise.ensures in
    let s = rw c.if-certify.false at c.certify.ensures in
    turned h.1 h.2 s.1 k.0 k.1 c.settle.result c.settle.ensures.1

pub unwrap-requires : goal.unwrap-requires
unwrap-requires c = (turn c).0

pub loop-up-smaller : goal.loop-up-smaller
loop-up-smaller c = (turn c.before).1.falls

pub loop-up-preserved : goal.loop-up-preserved
loop-up-preserved c = let t = (turn c.before).1 in (c.onward-reach.ensures, c.settle.ensures.0, t.low, λ d legal. t.legal d (c.loop-up.invariant.3 d legal))
