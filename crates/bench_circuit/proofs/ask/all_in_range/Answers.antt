use native.Mathlib.Omega.{arith}
use Rattle.bench_circuit.proofs.ask.all_in_range.Goals as goal

pub returns : goal.returns
returns c = λ e k h. c.loop-i.invariant k (omega arith)
