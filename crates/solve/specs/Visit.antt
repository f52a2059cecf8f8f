-- What a visit says of the voltages that it is made for, and of those that it comes to. Assumes nothing.
use Rattle.std.specs.Prelude.{◌≡◌, Bool, true, false, cond, List, ℕ, suc, ◌≤◌, ◌<◌, ℤ, pos, ◌+ℤ◌, set, ◌≤ℤ◌, ◌<ℤ◌}
use Rattle.units.specs.Voltage.{below_top}
use Rattle.network.specs.Network.{Free, reading, net}
use Rattle.network.specs.Sample.{Legal, Low, Answer}
use Rattle.network.specs.Search.{Visit, height}
use Rattle.circuit.specs.Board.{nodes_on, driven_on, network_on, Ranged}
use Rattle.solve.specs.Search.{Searching, Changed, LowAt}
use Rattle.solve.specs.Climb.{Risen}
use Rattle.solve.specs.declared.certify.Stance.{Stance}
use Rattle.solve.specs.declared.certify.Stance.TheVariants.{Back, Waits, Goes}
use Rattle.solve.specs.declared.certify.Lap.{Lap}
use Rattle.solve.specs.declared.certify.Lap.TheVariants.{Through, Sticks, Went}

-- one microvolt more, below the top
abbrev pub one_up : ℤ → ℤ
one_up v = cond (below_top v) (v +ℤ pos 1) v

-- every free node raised so
abbrev pub Raised : (board : List ℕ) (volts s : List ℤ) → Type 0
Raised board volts s = Changed (λ (j : ℕ) (u : ℤ). u ≡ one_up (reading volts j)) board volts s (suc (nodes_on board))

-- a visit for `volts` has come to s, where the net currents are w
pub record Visiting (board : List ℕ) (stretches stored volts s w : List ℤ) : Type 0 where
  pub searching : Searching board stretches stored s w
  pub ranged : Ranged board volts
  pub visit : Visit (network_on board stretches) (reading stored) (reading volts) (reading s)

-- what came of node i
abbrev pub VisitedAt : (board : List ℕ) (stretches stored volts before after : List ℤ) → ℕ → Stance → Type 0
VisitedAt board stretches stored volts before after i Back = (after ≡ before) × (reading before i ≤ℤ reading volts i)
VisitedAt board stretches stored volts before after i Waits = (after ≡ before) × (reading volts i <ℤ reading before i) × LowAt board stretches stored before i
VisitedAt board stretches stored volts before after i Goes =
    (after ≡ set before i (reading volts i)) × (reading volts i <ℤ reading before i) × (pos 0 <ℤ net 1 (network_on board stretches) (reading stored) (reading before) i)

-- some node waits
pub record Waiting (board : List ℕ) (stretches volts s : List ℤ) : Type 0 where
  pub node : ℕ
  pub free : Free (network_on board stretches) node
  pub waits : reading volts node <ℤ reading s node

-- no node that waits may go back
abbrev pub Stuck : (board : List ℕ) (stretches stored volts s : List ℤ) → Type 0
Stuck board stretches stored volts s = (i : ℕ) → Free (network_on board stretches) i → reading volts i <ℤ reading s i → LowAt board stretches stored s i

-- what came of one lap
abbrev pub VisitedAll : (board : List ℕ) (stretches stored volts before after : List ℤ) → Lap → Type 0
VisitedAll board stretches stored volts before after Through = (j : ℕ) → j ≤ nodes_on board → reading after j ≡ reading volts j
VisitedAll board stretches stored volts before after Sticks = Waiting board stretches volts after × Stuck board stretches stored volts after
VisitedAll board stretches stored volts before after Went = height (network_on board stretches) (reading after) < height (network_on board stretches) (reading before)

-- every node that waits may go back, the net currents being w
abbrev pub AllGo : (board : List ℕ) (volts s w : List ℤ) → Type 0
AllGo board volts s w = (i : ℕ) → driven_on board < i → i ≤ nodes_on board → reading volts i <ℤ reading s i → pos 0 <ℤ reading w i

-- what came of the whole visit, whether `volts` are the highest: they are the answer if they are legal and low, or s is higher
abbrev pub Judged : (board : List ℕ) (stretches stored volts s : List ℤ) → Bool → Type 0
Judged board stretches stored volts s true = (d : ℕ → ℤ) → Legal (network_on board stretches) d (reading volts) → Low (network_on board stretches) (reading stored) (reading volts) → Answer (network_on board stretches) (reading stored) d (reading volts)
Judged board stretches stored volts s false = Risen board stretches stored volts s
