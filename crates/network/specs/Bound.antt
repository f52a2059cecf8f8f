-- The words of demand 3: voltages that nearly balance, a bound that is enough, and what is then promised. Assumes nothing.
use Rattle.std.specs.Prelude.{◌≡◌, ℕ, ◌+◌, ◌*◌, ◌≤◌, ◌<◌, ℤ, pos, nat_abs, ◌-ℤ◌, ◌*ℤ◌, ◌≤ℤ◌}
use Rattle.network.specs.Network.{Network, Free, net, held, steepest}
use Rattle.network.specs.Sample.{Drives}

-- w, on a grid of k-ths, has the drives d, and with the stored currents x its net current misses zero by at most e at every free node
pub record Balances (k e : ℕ) (N : Network) (x d w : ℕ → ℤ) : Type 0 where
  pub drives : Drives k N d w
  pub near : (i : ℕ) → Free N i → nat_abs (net k N x w i) ≤ k * e

-- at every free node the steepest sum and e are at most B times the held conductance
abbrev pub Enough : Network → ℕ → ℕ → Type 0
Enough N e B = (i : ℕ) → Free N i → steepest N i + e ≤ B * held N i

-- B is the least that is enough
pub record LeastEnough (N : Network) (e B : ℕ) : Type 0 where
  pub enough : Enough N e B
  pub least : (B₂ : ℕ) → Enough N e B₂ → B ≤ B₂

-- our voltages v against w: no free node differs by B microvolts or more, either way, and with e zero ours is never the higher
pub record Close (N : Network) (v : ℕ → ℤ) (k e : ℕ) (w : ℕ → ℤ) : Type 0 where
  pub bound : (B : ℕ) → Enough N e B → (i : ℕ) → Free N i → nat_abs (w i -ℤ pos k *ℤ v i) < k * B
  pub never_higher : e ≡ 0 → (i : ℕ) → Free N i → (pos k *ℤ v i) ≤ℤ w i
