-- Voltages taken over from one array into another. Assumes nothing.
use Rattle.std.specs.Prelude.{◌≡◌, List, ◌⊎◌, ℕ, ◌≤◌, ◌<◌, ℤ, length}
use Rattle.network.specs.Network.{reading}

-- the places from `first` up to `end` are those of `from`, and every other place is as it was
pub record Taken (from : List ℤ) (first end : ℕ) (before after : List ℤ) : Type 0 where
  pub long : length after ≡ length before
  pub taken : (i : ℕ) → first ≤ i → i < end → reading after i ≡ reading from i
  pub elsewhere : (i : ℕ) → (i < first) ⊎ (end ≤ i) → reading after i ≡ reading before i
