-- The board: a circuit's numbers in one array, as the functions that run for each sample borrow it, and beside it the table of its curves'
-- stretches (Stretch). Assumes nothing.
-- Places 0 to 3: leak, nodes, driven nodes, elements. Then the steepest sum of every node, and the index (Index). Then six places for each
-- element: kind, end p, end q, conductance (0 where it has a curve), and for a curve the row of its first stretch and how many breakpoints it has.
use Rattle.std.specs.Prelude.{◌≡◌, Option, None, Some, true, cond, List, ℕ, ◌+◌, ◌*◌, ◌-◌, ◌/◌, ◌%◌, ◌≤◌, ◌<◌, ℤ, neg_ℤ, ◌-ℤ◌, eqb, leb, length, get_or}
use Rattle.units.specs.Voltage.{Within, InRange}
use Rattle.network.specs.Network.{Law, curve, conductance, current, pick, Branch, Network, Free, reading, steepest, InLimits, stored_limit}
use Rattle.network.specs.Kind.{has_curve, store_of}
use Rattle.network.specs.Elements.{touches}
use Rattle.stretch.specs.Stretch.{slopes_in, breakpoints_in, CurveReady}
use Rattle.circuit.specs.declared.branch.End.{End}
use Rattle.circuit.specs.declared.branch.End.TheVariants.{P, Q}
use Rattle.circuit.specs.Index.{end_number, index_size, index_number}

-- how many places it has
abbrev pub board_size : ℕ
board_size = 293

abbrev pub leak_on : List ℕ → ℕ
leak_on board = get_or board 0 0

abbrev pub nodes_on : List ℕ → ℕ
nodes_on board = get_or board 1 0

abbrev pub driven_on : List ℕ → ℕ
driven_on board = get_or board 2 0

abbrev pub count_on : List ℕ → ℕ
count_on board = get_or board 3 0

abbrev pub steepest_on : List ℕ → ℕ → ℕ
steepest_on board i = get_or board (4 + i) 0

-- where node i's ends begin, and the end at place k
abbrev pub start_on : List ℕ → ℕ → ℕ
start_on board i = get_or board (20 + i) 0

abbrev pub end_on : List ℕ → ℕ → ℕ
end_on board k = get_or board (37 + k) 0

abbrev pub kind_on : List ℕ → ℕ → ℕ
kind_on board j = get_or board (101 + 6 * j) 0

abbrev pub p_on : List ℕ → ℕ → ℕ
p_on board j = get_or board (102 + 6 * j) 0

abbrev pub q_on : List ℕ → ℕ → ℕ
q_on board j = get_or board (103 + 6 * j) 0

abbrev pub conductance_on : List ℕ → ℕ → ℕ
conductance_on board j = get_or board (104 + 6 * j) 0

abbrev pub first_on : List ℕ → ℕ → ℕ
first_on board j = get_or board (105 + 6 * j) 0

abbrev pub breakpoints_on : List ℕ → ℕ → ℕ
breakpoints_on board j = get_or board (106 + 6 * j) 0

-- element j as a branch, and the network
abbrev pub law_on : List ℕ → List ℤ → ℕ → Law
law_on board stretches j =
    cond (has_curve (kind_on board j))
    (curve (slopes_in stretches (first_on board j) (breakpoints_on board j)) (breakpoints_in stretches (first_on board j) (breakpoints_on board j)))
    (conductance (conductance_on board j))

unfoldable pub branch_on : List ℕ → List ℤ → ℕ → Branch
branch_on board stretches j = record { p = p_on board j; q = q_on board j; law = law_on board stretches j; store = store_of (kind_on board j) }

abbrev pub network_on : List ℕ → List ℤ → Network
network_on board stretches = record {
  leak = leak_on board;
  nodes = nodes_on board;
  driven = driven_on board;
  count = count_on board;
  branch = branch_on board stretches;
}

-- the conductance of element j, and if the other end is ground or a driven node
abbrev pub plain_conductance : List ℕ → ℕ → ℕ
plain_conductance board j = cond (has_curve (kind_on board j)) 0 (conductance_on board j)

abbrev pub held_from : List ℕ → ℕ → ℕ → ℕ
held_from board j other = cond (leb other (driven_on board)) (plain_conductance board j) 0

-- it has its network's index
abbrev pub Indexed : List ℕ → List ℤ → Type 0
Indexed board stretches = (k : ℕ) → k < index_size → get_or board (20 + k) 0 ≡ index_number (network_on board stretches) k

-- a board that means a network within document 01's limits, with its index, every curve with its stretches and no conductance
pub record Laid (board : List ℕ) (stretches : List ℤ) : Type 0 where
  pub limits : InLimits (network_on board stretches)
  pub index : Indexed board stretches
  pub no_conductance : (j : ℕ) → j < count_on board → has_curve (kind_on board j) ≡ true → conductance_on board j ≡ 0
  pub curves : (j : ℕ) → j < count_on board → has_curve (kind_on board j) ≡ true → CurveReady stretches (first_on board j) (breakpoints_on board j)

-- .. and has what was computed from it: the free nodes' steepest sums. What every function of a sample asks
pub record Ready (board : List ℕ) (stretches : List ℤ) : Type 0 where
  pub laid : Laid board stretches
  pub steepest_sums : (i : ℕ) → Free (network_on board stretches) i → steepest_on board i ≡ steepest (network_on board stretches) i

-- .. of voltages, and of stored currents
abbrev pub Ranged : List ℕ → List ℤ → Type 0
Ranged board volts = (i : ℕ) → i ≤ nodes_on board → InRange (reading volts i)

abbrev pub Kept : List ℕ → List ℤ → Type 0
Kept board stored = (j : ℕ) → j < count_on board → Within stored_limit (reading stored j)

-- all that a current is made of
pub record Evaluable (board : List ℕ) (stretches stored volts : List ℤ) : Type 0 where
  pub ready : Ready board stretches
  pub kept : Kept board stored
  pub ranged : Ranged board volts

-- element j ends at nodes that are there, in range
pub record Ends (board : List ℕ) (volts : List ℤ) (j : ℕ) : Type 0 where
  pub element : j < 32
  pub p_there : p_on board j < 16
  pub q_there : q_on board j < 16
  pub p_range : InRange (reading volts (p_on board j))
  pub q_range : InRange (reading volts (q_on board j))

-- the voltage of element j
abbrev pub across_on : List ℕ → List ℤ → ℕ → ℤ
across_on board volts j = reading volts (p_on board j) -ℤ reading volts (q_on board j)

-- its current
abbrev pub flow_on : List ℕ → List ℤ → List ℤ → List ℤ → ℕ → ℤ
flow_on board stretches stored volts j = current 1 (branch_on board stretches j).law (reading stored j) (across_on board volts j)

-- which end of element j node i is
abbrev pub end_at : List ℕ → ℕ → ℕ → Option End
end_at board j i = pick (eqb i (p_on board j)) (eqb i (q_on board j)) (Some P) (Some Q) None

-- the node at an end, the one at the other end of its element, and what leaves the node at an end by that element
abbrev pub node_on : List ℕ → ℕ → ℕ
node_on board end = cond (eqb (end % 2) 0) (p_on board (end / 2)) (q_on board (end / 2))

abbrev pub other_on : List ℕ → ℕ → ℕ
other_on board end = cond (eqb (end % 2) 0) (q_on board (end / 2)) (p_on board (end / 2))

abbrev pub leaving_on : List ℕ → List ℤ → List ℤ → List ℤ → ℕ → ℤ
leaving_on board stretches stored volts end = let c = flow_on board stretches stored volts (end / 2) in cond (eqb (end % 2) 0) c (neg_ℤ c)

-- what the code that makes the index is given: all but what is computed from it, and zeros where the index goes
pub record Unindexed (board : List ℕ) (stretches : List ℤ) : Type 0 where
  pub limits : InLimits (network_on board stretches)
  pub blank : (k : ℕ) → k < index_size → get_or board (20 + k) 0 ≡ 0
  pub long : length board ≡ board_size

-- ---- what the index tells

-- how many elements stand under node i, and the one at place t
abbrev pub many_on : List ℕ → ℕ → ℕ
many_on board i = start_on board (i + 1) - start_on board i

abbrev pub named_on : List ℕ → ℕ → ℕ → ℕ
named_on board i t = end_on board (start_on board i + t) / 2

-- under node i stand exactly the elements that touch it, each once, in image order, and each with the end that the node is
pub record Names (board : List ℕ) (stretches : List ℤ) (i : ℕ) : Type 0 where
  pub touching : (t : ℕ) → t < many_on board i → (named_on board i t < count_on board) × (touches (network_on board stretches) i (named_on board i t) ≡ true)
  pub all : (j : ℕ) → j < count_on board → touches (network_on board stretches) i j ≡ true → (t : ℕ) × (t < many_on board i) × (named_on board i t ≡ j)
  pub rising : (t u : ℕ) → t < u → u < many_on board i → named_on board i t < named_on board i u
  pub end : (t : ℕ) → t < many_on board i → end_on board (start_on board i + t) ≡ end_number (network_on board stretches) i (named_on board i t)
