-- The readers that call each other. The measure is the text that is left, and at one place the order of the calls. The loop's invariant: what was
-- found so far is the start of the chain, and whatever follows on it is the rest. Assumes nothing.
use Rattle.std.proofs.Common.{ℕ, ◌+◌, ◌-◌, ◌*◌, length}
use Rattle.ohms.specs.Found.{Operand}
use Rattle.ohms.specs.declared.stages.Sign.{Sign}
use Rattle.ohms.specs.declared.stages.Sign.TheVariants.{Plus, Bars}
use Rattle.ohms.proofs.ReadyLaws.{Ready}
use Rattle.ohms.proofs.reader.+factor_chain_operand.Given as goal

-- sums are of parallels, and parallels of factors
abbrev pub order : Sign → ℕ
order Plus = 2
order Bars = 0

abbrev pub decreases-factor : goal.decreases-factor
decreases-factor l = 5 * (length l.text.now - l.at)

abbrev pub decreases-operand : goal.decreases-operand
decreases-operand l = 5 * (length l.text.now - l.at) + order l.sign + 1

abbrev pub decreases-chain : goal.decreases-chain
decreases-chain l = 5 * (length l.text.now - l.at) + order l.sign + 2

abbrev pub invariant-chain-loop-sign : goal.invariant-chain-loop-sign
invariant-chain-loop-sign l = Ready l.sign (Operand l.sign l.text l.room) l.text l.at l.found.end l.found.worth

abbrev pub decreases-chain-loop-sign : goal.decreases-chain-loop-sign
decreases-chain-loop-sign l = length l.text - l.found.end
