-- Nodes that move: v are the voltages before, w those after. The words in which the laws speak to code that keeps net currents. Assumes nothing.
use Rattle.std.specs.Prelude.{◌≡◌, ℕ, ℤ, pos, ◌+ℤ◌, ◌-ℤ◌, ◌*ℤ◌, get_or}
use Rattle.units.specs.Integer.{sum}
use Rattle.network.specs.Network.{Network, atNode, leaving, net}
use Rattle.network.specs.Elements.{elements_at}

-- all nodes but i stand where they stood
abbrev pub Still : ℕ → (ℕ → ℤ) → (ℕ → ℤ) → Type 0
Still i v w = (j : ℕ) → (j ≡ i → ⊥) → w j ≡ v j

-- what leaves node m by element j more than it did
abbrev pub more_by_branch : Network → (ℕ → ℤ) → (ℕ → ℤ) → (ℕ → ℤ) → ℕ → ℕ → ℤ
more_by_branch N x v w m j = leaving 1 (N.branch j) (x j) w m -ℤ leaving 1 (N.branch j) (x j) v m

-- the other end of element j, of which node i is one
abbrev pub other_end : Network → ℕ → ℕ → ℕ
other_end N i j = atNode (N.branch j) i (N.branch j).q (N.branch j).p 0

-- the net current of node m on the way: its leak has its new current, and of the elements the first t of node i's have
unfoldable pub part_moved : Network → (ℕ → ℤ) → (ℕ → ℤ) → (ℕ → ℤ) → (i t m : ℕ) → ℤ
part_moved N x v w i t m = net 1 N x v m +ℤ pos N.leak *ℤ (w m -ℤ v m) +ℤ sum (λ (u : ℕ). more_by_branch N x v w m (get_or (elements_at N i) u 0)) t

-- .. and where any nodes move: its leak and the first n elements have their new current
unfoldable pub part_shifted : Network → (ℕ → ℤ) → (ℕ → ℤ) → (ℕ → ℤ) → (n m : ℕ) → ℤ
part_shifted N x v w n m = net 1 N x v m +ℤ pos N.leak *ℤ (w m -ℤ v m) +ℤ sum (more_by_branch N x v w m) n
