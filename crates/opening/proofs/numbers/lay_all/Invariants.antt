use mathlib.Core.Path.{◌≡◌}
use Prim.Native.Nat.{◌+◌, ◌*◌}
use Rattle.units.specs.Table.{padded}
use Rattle.image.specs.Setting.{plain}
use Rattle.circuit.specs.Board.{board_size}
use Rattle.opening.specs.Opening.{laid_number}
use Rattle.opening.proofs.numbers.lay_all.Given as goal

abbrev pub invariant-loop-j : goal.invariant-loop-j
invariant-loop-j l = l.board ≡ padded 0 board_size (laid_number l.parts plain) (101 + 6 * l.j)
