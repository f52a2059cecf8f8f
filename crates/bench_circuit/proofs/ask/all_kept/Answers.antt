use native.Mathlib.Omega.{arith}
use Rattle.bench_circuit.proofs.ask.all_kept.Goals as goal

pub returns : goal.returns
returns c = λ e k h. c.loop-j.invariant k (omega arith)
