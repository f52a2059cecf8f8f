-- The drives of a sample at the driven nodes. Assumes nothing.
use Rattle.std.specs.Prelude.{◌≡◌, List, ◌⊎◌, ℕ, suc, ◌<◌, ℤ, length}
use Rattle.network.specs.Network.{reading}
use Rattle.circuit.specs.Board.{driven_on}
use Rattle.block.specs.Block.{drive_at}

-- the first n drives of sample j stand at nodes 1 to n, and every other place is as it was
pub record Placed (drives : List ℕ) (driven j n : ℕ) (before after : List ℤ) : Type 0 where
  pub long : length after ≡ length before
  pub at : (i : ℕ) → i < n → reading after (suc i) ≡ drive_at drives driven j i
  pub elsewhere : (i : ℕ) → (i ≡ 0) ⊎ (n < i) → reading after i ≡ reading before i

-- sample j's drives stand at the driven nodes
abbrev pub Begun : List ℕ → List ℕ → ℕ → List ℤ → Type 0
Begun board drives j volts = (i : ℕ) → i < driven_on board → reading volts (suc i) ≡ drive_at drives (driven_on board) j i
