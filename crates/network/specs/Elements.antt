-- Which elements a node has. Assumes nothing.
use Rattle.std.specs.Prelude.{Bool, true, false, List, ℕ}
use Rattle.units.specs.Table.{numbers_where}
use Rattle.network.specs.Network.{Network, atNode}

-- whether node i is an end of element j
abbrev pub touches : Network → ℕ → ℕ → Bool
touches N i j = atNode (N.branch j) i true true false

-- those below the count that it is an end of, in image order
abbrev pub elements_at : Network → ℕ → List ℕ
elements_at N i = numbers_where (touches N i) N.count
