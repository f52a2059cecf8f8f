-- What comes of one sample: document 01, "The voltages of one sample" and numbers 0, 9, 10 and 11 of "What comes back". Assumes nothing.
-- N is the network, x the stored currents before the sample, d the drives (d j is that of node j + 1), v, w and u voltages.
use Rattle.std.specs.Prelude.{◌≡◌, ◌⊎◌, ℕ, suc, ◌≤◌, ◌<◌, ℤ, pos, nat_abs, ◌*ℤ◌, ◌≤ℤ◌, ◌<ℤ◌}
use Rattle.units.specs.Voltage.{voltage_limit, drive_limit, Within, InRange, InDrive}
use Rattle.units.specs.declared.number.Number.{Number}
use Rattle.units.specs.declared.number.Number.TheVariants as number
use Rattle.network.specs.Network.{Network, Free, net, next, stored_limit}

-- ground at 0 and the driven nodes at their drives, on a grid of k-ths
pub record Drives (k : ℕ) (N : Network) (d w : ℕ → ℤ) : Type 0 where
  pub ground : w 0 ≡ pos 0
  pub driven : (j : ℕ) → j < N.driven → w (suc j) ≡ pos k *ℤ d j

-- an assignment of whole voltages in range to the free nodes
pub record Legal (N : Network) (d w : ℕ → ℤ) : Type 0 where
  pub drives : Drives 1 N d w
  pub range : (i : ℕ) → Free N i → InRange (w i)

-- every net current at or below zero
abbrev pub Low : Network → (ℕ → ℤ) → (ℕ → ℤ) → Type 0
Low N x w = (i : ℕ) → Free N i → net 1 N x w i ≤ℤ pos 0

-- w is nowhere higher than v
abbrev pub Under : Network → (ℕ → ℤ) → (ℕ → ℤ) → Type 0
Under N w v = (j : ℕ) → j ≤ N.nodes → w j ≤ℤ v j

-- no legal low assignment passes v anywhere
abbrev pub Above : Network → (ℕ → ℤ) → (ℕ → ℤ) → (ℕ → ℤ) → Type 0
Above N x d v = (w : ℕ → ℤ) → Legal N d w → Low N x w → Under N w v

-- the greatest of them
pub record Answer (N : Network) (x d v : ℕ → ℤ) : Type 0 where
  pub legal : Legal N d v
  pub low : Low N x v
  pub highest : Above N x d v

-- there is none
abbrev pub Empty : Network → (ℕ → ℤ) → (ℕ → ℤ) → Type 0
Empty N x d = (w : ℕ → ℤ) → Legal N d w → Low N x w → ⊥

-- some free node stands at the top of the range, or no free node does
pub record AtTop (N : Network) (v : ℕ → ℤ) : Type 0 where
  pub node : ℕ
  pub free : Free N node
  pub top : v node ≡ pos voltage_limit

abbrev pub BelowTop : Network → (ℕ → ℤ) → Type 0
BelowTop N v = (i : ℕ) → Free N i → v i <ℤ pos voltage_limit

-- what is refused by the rail number: there is none, or the greatest has a free node at the top
abbrev pub Rail : Network → (ℕ → ℤ) → (ℕ → ℤ) → Type 0
Rail N x d = Empty N x d ⊎ ((v : ℕ → ℤ) × Answer N x d v × AtTop N v)

-- ---- the outcome of a sample

-- accepted with the voltages and the stored currents after it; a drive beyond its limit; the rail; a new stored current beyond its limit
pub data Outcome : Type 0 where
  accepted : (ℕ → ℤ) → (ℕ → ℤ) → Outcome
  driveRefused railRefused storedRefused : Outcome

-- what it is answered with
abbrev pub answer_of : Outcome → Number
answer_of (accepted v y) = number.Done
answer_of driveRefused = number.Drive
answer_of railRefused = number.Rail
answer_of storedRefused = number.Stored

-- the voltages, none of which a refused sample has (0 stands there), and the stored currents afterwards, which a refused sample leaves
abbrev pub voltages_of : Outcome → ℕ → ℤ
voltages_of (accepted v y) = v
voltages_of driveRefused = λ (j : ℕ). pos 0
voltages_of railRefused = λ (j : ℕ). pos 0
voltages_of storedRefused = λ (j : ℕ). pos 0

abbrev pub stored_of : (ℕ → ℤ) → Outcome → ℕ → ℤ
stored_of x (accepted v y) = y
stored_of x driveRefused = x
stored_of x railRefused = x
stored_of x storedRefused = x

-- no drive is beyond its limit
abbrev pub DrivesLegal : Network → (ℕ → ℤ) → Type 0
DrivesLegal N d = (j : ℕ) → j < N.driven → InDrive (d j)

-- number 0: v is the answer, below the top, and y the stored currents after it, none beyond its limit
pub record Accepted (N : Network) (x d v y : ℕ → ℤ) : Type 0 where
  pub drives : DrivesLegal N d
  pub answer : Answer N x d v
  pub below : BelowTop N v
  pub stored : (j : ℕ) → j < N.count → y j ≡ next N x v j
  pub kept : (j : ℕ) → j < N.count → Within stored_limit (y j)

-- number 9: some drive is beyond its limit
pub record DriveRefused (N : Network) (d : ℕ → ℤ) : Type 0 where
  pub drive : ℕ
  pub there : drive < N.driven
  pub beyond : drive_limit < nat_abs (d drive)

-- number 10
pub record RailRefused (N : Network) (x d : ℕ → ℤ) : Type 0 where
  pub drives : DrivesLegal N d
  pub rail : Rail N x d

-- number 11: there is an answer below the top, and after it some new stored current is beyond its limit
pub record StoredRefused (N : Network) (x d : ℕ → ℤ) : Type 0 where
  pub drives : DrivesLegal N d
  pub voltages : ℕ → ℤ
  pub answer : Answer N x d voltages
  pub below : BelowTop N voltages
  pub branch : ℕ
  pub there : branch < N.count
  pub beyond : stored_limit < nat_abs (next N x voltages branch)

-- the sample with the stored currents x and the drives d has this outcome
abbrev pub Gives : Network → (ℕ → ℤ) → (ℕ → ℤ) → Outcome → Type 0
Gives N x d (accepted v y) = Accepted N x d v y
Gives N x d driveRefused = DriveRefused N d
Gives N x d railRefused = RailRefused N x d
Gives N x d storedRefused = StoredRefused N x d

-- two outcomes of a sample that a host cannot tell apart
pub record Same (N : Network) (x : ℕ → ℤ) (o₁ o₂ : Outcome) : Type 0 where
  pub answer : answer_of o₁ ≡ answer_of o₂
  pub voltages : (j : ℕ) → j ≤ N.nodes → voltages_of o₁ j ≡ voltages_of o₂ j
  pub stored : (j : ℕ) → j < N.count → stored_of x o₁ j ≡ stored_of x o₂ j
