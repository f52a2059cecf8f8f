-- What a search for the answer says of the voltages that it comes to, over a board. Assumes nothing.
use Rattle.std.specs.Prelude.{◌≡◌, Bool, true, false, List, Result, Ok, Err, ℕ, ◌+◌, ◌*◌, ◌≤◌, ◌<◌, ℤ, pos, length, ◌≤ℤ◌}
use Rattle.units.specs.Voltage.{voltage_limit}
use Rattle.network.specs.Network.{reading, net, leak_limit, branch_limit, current_bound}
use Rattle.network.specs.Sample.{Low, Under}
use Rattle.network.specs.Search.{Settling, NoneUnder, height}
use Rattle.circuit.specs.Board.{driven_on, network_on, Evaluable}
use Rattle.circuit.specs.Nets.{Netted}
use Rattle.solve.specs.declared.settle.NoneInRange.{NoneInRange}

-- where a search stands: a board that is ready, stored currents within their limit, voltages in range with ground at zero, and their net currents
pub record Searching (board : List ℕ) (stretches stored volts nets : List ℤ) : Type 0 where
  pub evaluable : Evaluable board stretches stored volts
  pub long : length volts ≡ 16
  pub ground : reading volts 0 ≡ pos 0
  pub netted : Netted board stretches stored volts nets

-- the places of the free nodes before node i are as P says, and those of the fixed nodes as they were
pub record Changed (P : ℕ → ℤ → Type 0) (board : List ℕ) (before after : List ℤ) (i : ℕ) : Type 0 where
  pub long : length after ≡ 16
  pub same : (j : ℕ) → j ≤ driven_on board → reading after j ≡ reading before j
  pub free : (j : ℕ) → driven_on board < j → j < i → P j (reading after j)

-- what no net current passes: 0.76 × 2^63
abbrev pub net_bound : ℕ
net_bound = leak_limit * voltage_limit + branch_limit * current_bound

-- the net current of node i is not above zero
abbrev pub LowAt : (board : List ℕ) (stretches stored volts : List ℤ) → ℕ → Type 0
LowAt board stretches stored volts i = net 1 (network_on board stretches) (reading stored) (reading volts) i ≤ℤ pos 0

-- ---- going down

-- a search that has come to `before`, wherever it began, may go on at `after`
pub record Down (board : List ℕ) (stretches stored before after : List ℤ) : Type 0 where
  pub under : Under (network_on board stretches) (reading after) (reading before)
  pub settling : (d z : ℕ → ℤ) → Settling (network_on board stretches) (reading stored) d z (reading before) → Settling (network_on board stretches) (reading stored) d z (reading after)

-- .. which is lower at some node
pub record Lowered (board : List ℕ) (stretches stored before after : List ℤ) : Type 0 where
  pub down : Down board stretches stored before after
  pub falls : height (network_on board stretches) (reading after) < height (network_on board stretches) (reading before)

-- a search that has come to `before` finds nothing in range
abbrev pub Nowhere : (board : List ℕ) (stretches stored before : List ℤ) → Type 0
Nowhere board stretches stored before = (d z : ℕ → ℤ) → Settling (network_on board stretches) (reading stored) d z (reading before) → NoneUnder (network_on board stretches) (reading stored) d z

-- what came of a step or a sweep: whether some voltage is lower, or that there is nothing in range; `still` is what is known where none is
abbrev pub Fell : Type 0 → (board : List ℕ) (stretches stored before after : List ℤ) → Result Bool NoneInRange → Type 0
Fell still board stretches stored before after (Ok false) = (after ≡ before) × still
Fell still board stretches stored before after (Ok true) = Lowered board stretches stored before after
Fell still board stretches stored before after (Err _) = Nowhere board stretches stored before

-- what came of the whole search downwards
abbrev pub Came : (board : List ℕ) (stretches stored before after : List ℤ) → Result Unit NoneInRange → Type 0
Came board stretches stored before after (Ok _) = Down board stretches stored before after × Low (network_on board stretches) (reading stored) (reading after)
Came board stretches stored before after (Err _) = Nowhere board stretches stored before
