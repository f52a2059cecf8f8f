use Rattle.std.proofs.Common.{◌≡◌, pos}
use Rattle.units.specs.Table.{padded}
use Rattle.network.specs.Network.{reading}
use Rattle.measured.proofs.drawing.breakpoints.Given as goal

abbrev pub invariant-loop-j : goal.invariant-loop-j
invariant-loop-j l = l.breakpoints ≡ padded (pos 0) 16 (reading l.voltages) l.j
