-- From a circuit's parts to the arrays that its samples are played from: the board and the table of stretches. Assumes nothing.
use Rattle.std.specs.Prelude.{cond, List, ℕ, ◌+◌, ◌*◌, ◌-◌, ◌/◌, ◌%◌, eqb, ltb, ℤ, pos}
use Rattle.units.specs.Table.{padded}
use Rattle.network.specs.Network.{steepest}
use Rattle.network.specs.Kind.{has_curve}
use Rattle.image.specs.Parts.{element_of, curve_of, slopes_of, breakpoints_of}
use Rattle.image.specs.Conductance.{conductance_at}
use Rattle.image.specs.Setting.{Setting}
use Rattle.image.specs.Meaning.{leak_of, network_at}
use Rattle.image.specs.declared.parts.Parts.{Parts}
use Rattle.stretch.specs.Stretch.{stretches_size, row_number}
use Rattle.circuit.specs.Board.{board_size}
use Rattle.circuit.specs.Index.{index_number}

-- number k of element j: kind, p, q and conductance, and for a curve the row of its first stretch and how many breakpoints it has
abbrev pub element_number : Parts → Setting → ℕ → ℕ → ℕ
element_number parts setting j k =
    let e = element_of parts j in
    cond (eqb k 0) e.kind
    (cond (eqb k 1) e.p
    (cond (eqb k 2) e.q
    (cond (eqb k 3) (conductance_at parts setting j)
    (cond (has_curve e.kind) (cond (eqb k 4) (17 * e.curve) (curve_of parts e.curve).count) 0))))

-- number i of the board before anything is computed from it
unfoldable pub laid_number : Parts → Setting → ℕ → ℕ
laid_number parts setting i =
    cond (eqb i 0) (leak_of parts.version)
    (cond (eqb i 1) parts.nodes
    (cond (eqb i 2) parts.driven
    (cond (eqb i 3) parts.element_count
    (cond (ltb i 101) 0 (element_number parts setting ((i - 101) / 6) ((i - 101) % 6))))))

unfoldable pub laid_of : Parts → Setting → List ℕ
laid_of parts setting = padded 0 board_size (laid_number parts setting) board_size

-- .. and when its index stands on it and the steepest sums of the first n nodes
unfoldable pub board_number : Parts → Setting → ℕ → ℕ → ℕ
board_number parts setting n i =
    cond (ltb i 4) (laid_number parts setting i)
    (cond (ltb i 20) (cond (ltb i (4 + n)) (steepest (network_at parts setting) (i - 4)) 0)
    (cond (ltb i 101) (index_number (network_at parts setting) (i - 20)) (laid_number parts setting i)))

-- the board with those of the first n nodes, and with all
unfoldable pub board_to : Parts → Setting → ℕ → List ℕ
board_to parts setting n = padded 0 board_size (board_number parts setting n) board_size

abbrev pub board_of : Parts → Setting → List ℕ
board_of parts setting = board_to parts setting 16

-- number t of the table: 17 rows of three numbers for each curve
unfoldable pub table_number : Parts → ℕ → ℤ
table_number parts t = let c = curve_of parts (t / 51) in row_number (slopes_of c) (breakpoints_of c) (t % 51 / 3) (t % 3)

unfoldable pub stretches_of : Parts → List ℤ
stretches_of parts = padded (pos 0) stretches_size (table_number parts) stretches_size
