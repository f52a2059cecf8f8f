-- The index: for each node the ends that it is, in image order. Assumes nothing.
-- An end is told by one number: twice its element's for the element's end p, and one more for its end q.
use Rattle.std.specs.Prelude.{cond, List, [], ◌++◌, map, ℕ, zero, suc, ◌+◌, ◌*◌, ◌-◌, leb, ltb, length, get_or}
use Rattle.units.specs.Table.{tabulate}
use Rattle.network.specs.Network.{Network, atNode}
use Rattle.network.specs.Elements.{elements_at}

-- the end of element j that node i is
abbrev pub end_number : Network → ℕ → ℕ → ℕ
end_number N i j = 2 * j + atNode (N.branch j) i 0 1 0

-- all of node i's, and those of the nodes below n, one node after the other
abbrev pub ends_at : Network → ℕ → List ℕ
ends_at N i = map (end_number N i) (elements_at N i)

unfoldable pub ends_below : Network → ℕ → List ℕ
ends_below N zero = []
ends_below N (suc n) = ends_below N n ++ ends_at N n

-- how many places it has: 17 that say where each node's ends begin and where the last node's end, and 64 ends
abbrev pub index_size : ℕ
index_size = 81

-- number k of it; what is past the last node and past the last end is zero
unfoldable pub index_number : Network → ℕ → ℕ
index_number N k = cond (ltb k 17) (cond (leb k (suc N.nodes)) (length (ends_below N k)) 0) (get_or (ends_below N (suc N.nodes)) (k - 17) 0)

unfoldable pub index_of : Network → List ℕ
index_of N = tabulate (index_number N) index_size
