-- What a circuit is and what flows in it: document 01, "From parts to currents". Assumes nothing.
-- Microvolts, nanosiemens, femtoamperes. Voltages are a function from node numbers, ground being node 0; stored currents are a function
-- from branch numbers. Everything stands on a grid of k-ths: voltages and currents are counted in k-ths, and k is 1 in the code.
use Rattle.std.specs.Prelude.{◌≡◌, Bool, true, false, cond, List, [], ◌∷◌, ℕ, suc, ◌+◌, ◌*◌, ◌^◌, ◌≤◌, ◌<◌, max, eqb, leb, length, get_or, ℤ, pos, neg_ℤ, ◌+ℤ◌, ◌-ℤ◌, ◌*ℤ◌, ◌<ℤ◌}
use Rattle.units.specs.Integer.{lower, higher, sum, total}
use Rattle.units.specs.Voltage.{Within}

-- ---- branches and networks

-- how current depends on voltage: a conductance, or a curve by its slopes and its breakpoints
pub data Law : Type 0 where
  conductance : ℕ → Law
  curve : List ℕ → List ℤ → Law

-- how a branch stores a current from one sample to the next, if it does
pub data Store : Type 0 where
  nothing capacitor inductor : Store

-- current flows from p to q
pub record Branch : Type 0 where
  pub p : ℕ
  pub q : ℕ
  pub law : Law
  pub store : Store

-- nodes 1 to driven are driven, those after them up to nodes are free; the branches have the numbers below count
pub record Network : Type 0 where
  pub leak : ℕ
  pub nodes : ℕ
  pub driven : ℕ
  pub count : ℕ
  pub branch : ℕ → Branch

-- what stands past the count where branches come from a list
abbrev pub no_branch : Branch
no_branch = record { p = 0; q = 0; law = conductance 0; store = nothing }

-- ground and the driven nodes are fixed, the others that are there are free
abbrev pub Fixed : Network → ℕ → Type 0
Fixed N i = i ≤ N.driven

abbrev pub Free : Network → ℕ → Type 0
Free N i = (N.driven < i) × (i ≤ N.nodes)

-- voltages or stored currents that code has in a list
abbrev pub reading : List ℤ → ℕ → ℤ
reading l j = get_or l j (pos 0)

-- ---- currents

-- a curve up to a constant, stretch by stretch from the left: each slope times the part of the way that lies in its stretch
unfoldable pub ramp : ℕ → List ℕ → List ℤ → ℤ → ℤ
ramp k [] breakpoints v = pos 0
ramp k (s ∷ slopes) [] v = pos s *ℤ v
ramp k (s ∷ slopes) (b ∷ breakpoints) v = pos s *ℤ lower v (pos k *ℤ b) +ℤ ramp k slopes breakpoints (higher v (pos k *ℤ b))

-- what flows from p to q at the voltage v of p less that of q, the stored current being x (which is 0 where a branch stores nothing)
unfoldable pub current : ℕ → Law → ℤ → ℤ → ℤ
current k (conductance g) x v = pos g *ℤ v -ℤ pos k *ℤ x
current k (curve slopes breakpoints) x v = ramp k slopes breakpoints v -ℤ ramp k slopes breakpoints (pos 0)

-- what a branch has at its end p, at its end q, and at another node
abbrev pub pick {ℓ} : {A : Type ℓ} → Bool → Bool → A → A → A → A
pick true q at_p at_q other = at_p
pick false true at_p at_q other = at_q
pick false false at_p at_q other = other

abbrev pub atNode {ℓ} : {A : Type ℓ} → Branch → ℕ → A → A → A → A
atNode b i at_p at_q other = pick (eqb i b.p) (eqb i b.q) at_p at_q other

-- what leaves node i by a branch, and by the leak and all branches: its net current
unfoldable pub leaving : ℕ → Branch → ℤ → (ℕ → ℤ) → ℕ → ℤ
leaving k b x w i =
    let c = current k b.law x (w b.p -ℤ w b.q) in
    atNode b i c (neg_ℤ c) (pos 0)

unfoldable pub net : ℕ → Network → (ℕ → ℤ) → (ℕ → ℤ) → ℕ → ℤ
net k N x w i = pos N.leak *ℤ w i +ℤ sum (λ (j : ℕ). leaving k (N.branch j) (x j) w i) N.count

-- ---- held conductance and steepest sum

-- a curve counts with no conductance, and with its greatest slope
unfoldable pub conductance_of : Law → ℕ
conductance_of (conductance g) = g
conductance_of (curve slopes breakpoints) = 0

unfoldable pub greatest : List ℕ → ℕ
greatest [] = 0
greatest (s ∷ slopes) = max s (greatest slopes)

unfoldable pub steepest_of : Law → ℕ
steepest_of (conductance g) = g
steepest_of (curve slopes breakpoints) = greatest slopes

-- what a branch adds at node i: its conductance if the other end is fixed; its conductance or greatest slope
unfoldable pub held_by_branch : Network → Branch → ℕ → ℕ
held_by_branch N b i =
    let g = conductance_of b.law in
    atNode b i (cond (leb b.q N.driven) g 0) (cond (leb b.p N.driven) g 0) 0

unfoldable pub steepest_by : Branch → ℕ → ℕ
steepest_by b i = atNode b i (steepest_of b.law) (steepest_of b.law) 0

-- the leak plus the conductances whose other end is ground or a driven node
unfoldable pub held : Network → ℕ → ℕ
held N i = N.leak + total (λ (j : ℕ). held_by_branch N (N.branch j) i) N.count

-- the leak plus all conductances and, for each curve, the greatest slope
unfoldable pub steepest : Network → ℕ → ℕ
steepest N i = N.leak + total (λ (j : ℕ). steepest_by (N.branch j) i) N.count

-- ---- stored currents

-- the stored current of a branch after a sample: g is its conductance, x what it stored before, v its voltage in the sample
unfoldable pub advance : Store → ℕ → ℤ → ℤ → ℤ
advance nothing g x v = pos 0
advance capacitor g x v = pos (2 * g) *ℤ v -ℤ x
advance inductor g x v = x -ℤ pos (2 * g) *ℤ v

-- all of them, from the sample's voltages
unfoldable pub next : Network → (ℕ → ℤ) → (ℕ → ℤ) → ℕ → ℤ
next N x v j =
    let b = N.branch j in
    advance b.store (conductance_of b.law) (x j) (v b.p -ℤ v b.q)

-- ---- document 01's limits, each once (those of the voltage belong to units)

-- of nodes besides ground, and of branches
abbrev pub node_limit : ℕ
node_limit = 15

abbrev pub branch_limit : ℕ
branch_limit = 32

-- of a conductance and of a slope
abbrev pub conductance_limit : ℕ
conductance_limit = 2 ^ 30

-- of a breakpoint, either way, and of how many a curve has
abbrev pub breakpoint_limit : ℕ
breakpoint_limit = 2 ^ 26

abbrev pub breakpoint_count_limit : ℕ
breakpoint_count_limit = 16

-- of a stored current, either way
abbrev pub stored_limit : ℕ
stored_limit = 2 ^ 57

-- of the leak: document 01 has 1 nS, request 6 has 10
abbrev pub leak_limit : ℕ
leak_limit = 10

-- what no current passes then: 3 × 2^56
abbrev pub current_bound : ℕ
current_bound = conductance_limit * breakpoint_limit + stored_limit

-- every branch ends at nodes that are there
pub record Wired (N : Network) : Type 0 where
  pub driven_there : N.driven ≤ N.nodes
  pub p_there : (j : ℕ) → j < N.count → (N.branch j).p ≤ N.nodes
  pub q_there : (j : ℕ) → j < N.count → (N.branch j).q ≤ N.nodes

-- breakpoints rise strictly
abbrev pub Rising : List ℤ → Type 0
Rising breakpoints = (j : ℕ) → suc j < length breakpoints → reading breakpoints j <ℤ reading breakpoints (suc j)

-- a curve within the limits, with one slope more than it has breakpoints
pub record CurveInLimits (slopes : List ℕ) (breakpoints : List ℤ) : Type 0 where
  pub some : 1 ≤ length breakpoints
  pub few : length breakpoints ≤ breakpoint_count_limit
  pub stretches : length slopes ≡ suc (length breakpoints)
  pub slope : (j : ℕ) → get_or slopes j 0 ≤ conductance_limit
  pub breakpoint : (j : ℕ) → Within breakpoint_limit (reading breakpoints j)
  pub rising : Rising breakpoints

abbrev pub LawInLimits : Law → Type 0
LawInLimits (conductance g) = (1 ≤ g) × (g ≤ conductance_limit)
LawInLimits (curve slopes breakpoints) = CurveInLimits slopes breakpoints

-- a network within document 01's limits; wired, and with a leak of at least 1, since the laws need both
pub record InLimits (N : Network) : Type 0 where
  pub wired : Wired N
  pub leaks : 1 ≤ N.leak
  pub leak_small : N.leak ≤ leak_limit
  pub some_node : 1 ≤ N.nodes
  pub few_nodes : N.nodes ≤ node_limit
  pub some_branch : 1 ≤ N.count
  pub few_branches : N.count ≤ branch_limit
  pub laws : (j : ℕ) → j < N.count → LawInLimits (N.branch j).law
  pub two_ended : (j : ℕ) → j < N.count → (N.branch j).p ≡ (N.branch j).q → ⊥
