use mathlib.Core.Path.{◌≡◌}
use Rattle.parts.specs.Named.{highest_among}
use Rattle.parts.proofs.nodes.highest_named.Given as goal

abbrev pub invariant-loop-e : goal.invariant-loop-e
invariant-loop-e l = l.highest ≡ highest_among l.fn.parts l.e-index
