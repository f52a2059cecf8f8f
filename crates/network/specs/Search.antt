-- The words in which the laws speak to a search for the answer. Nothing promised to a host rests on them. Assumes nothing.
use Rattle.std.specs.Prelude.{◌≡◌, cond, ◌&&◌, ◌⊎◌, ℕ, suc, ◌≤◌, eqb, leb, ltb, ℤ, pos, ◌+ℤ◌, ◌-ℤ◌, ◌<ℤ◌}
use Rattle.std.specs.Int.Signed.{lt_z}
use Rattle.units.specs.Integer.{up, total}
use Rattle.units.specs.Voltage.{voltage_limit}
use Rattle.network.specs.Network.{Network, Free, net}
use Rattle.network.specs.Sample.{Legal, Low, Under}

-- ---- going down

-- every legal low assignment under z is under v too
abbrev pub Covers : Network → (ℕ → ℤ) → (ℕ → ℤ) → (ℕ → ℤ) → (ℕ → ℤ) → Type 0
Covers N x d z v = (w : ℕ → ℤ) → Legal N d w → Low N x w → Under N w z → Under N w v

-- a search from z has come to v: what holds all along
pub record Settling (N : Network) (x d z v : ℕ → ℤ) : Type 0 where
  pub legal : Legal N d v
  pub under : Under N v z
  pub covers : Covers N x d z v

-- v is the greatest legal low assignment under z
pub record Settled (N : Network) (x d z v : ℕ → ℤ) : Type 0 where
  pub settling : Settling N x d z v
  pub low : Low N x v

-- there is none under z
abbrev pub NoneUnder : Network → (ℕ → ℤ) → (ℕ → ℤ) → (ℕ → ℤ) → Type 0
NoneUnder N x d z = (w : ℕ → ℤ) → Legal N d w → Low N x w → Under N w z → ⊥

-- node i lowered by t
unfoldable pub lowered : (ℕ → ℤ) → ℕ → ℕ → ℕ → ℤ
lowered w i t j = cond (eqb j i) (w j -ℤ pos t) (w j)

-- e is reached from s by lowering free nodes one after the other, each by r + 1 where its net current was above zero when lowered by r
pub data Sank (N : Network) (x s : ℕ → ℤ) : (ℕ → ℤ) → Type 0 where
  still : {e : ℕ → ℤ} → ((j : ℕ) → j ≤ N.nodes → e j ≡ s j) → Sank N x s e
  sunk : {e : ℕ → ℤ} (i r : ℕ) → Sank N x s e → Free N i → pos 0 <ℤ net 1 N x (lowered e i r) i → Sank N x s (lowered e i (suc r))

-- ---- certifying

-- z raised by one at every free node below the top
unfoldable pub raised : Network → (ℕ → ℤ) → ℕ → ℤ
raised N z j = cond (ltb N.driven j && (leb j N.nodes && lt_z (z j) (pos voltage_limit))) (z j +ℤ pos 1) (z j)

-- the visit has come to s: a node is back at z, or it waits where it was raised to
pub record Visit (N : Network) (x z s : ℕ → ℤ) : Type 0 where
  pub sank : Sank N x (raised N z) s
  pub each : (j : ℕ) → j ≤ N.nodes → (s j ≡ z j) ⊎ (s j ≡ raised N z j)

-- the visit gets through: it comes to a place where no node waits
pub record Through (N : Network) (x z : ℕ → ℤ) : Type 0 where
  pub place : ℕ → ℤ
  pub visit : Visit N x z place
  pub back : (j : ℕ) → j ≤ N.nodes → place j ≡ z j

-- ---- what falls: how high the nodes stand above the bottom while a search goes down, how far below the top while it climbs

unfoldable pub height : Network → (ℕ → ℤ) → ℕ
height N v = total (λ (j : ℕ). up (v j +ℤ pos voltage_limit)) (suc N.nodes)

unfoldable pub depth : Network → (ℕ → ℤ) → ℕ
depth N v = total (λ (j : ℕ). up (pos voltage_limit -ℤ v j)) (suc N.nodes)
