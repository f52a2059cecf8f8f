-- A node's sums, as loops over its ends add them up. Assumes nothing.
use mathlib.Core.Path.{◌≡◌, refl, sym, ◌∙◌, ap}
use mathlib.Core.Bool.{Bool, true, false, cond, true≢false}
use mathlib.Core.List.{List}
use Prim.Native.Nat.{ℕ, ◌+◌, ◌*◌, ◌-◌, ◌/◌, ◌%◌, ◌^◌, ◌≤◌, ◌<◌}
use native.Mathlib.Nat.{mul-le-mul}
use native.Mathlib.Omega.{arith}
use lib.Dec.{eqb}
use lib.IntN.{ℤ, pos, neg_ℤ, nat_abs, ◌+ℤ◌, ◌*ℤ◌, +ℤ_idr, +ℤ_assoc}
use lib.ListN.{length, get_or}
use borrow.Author.Tests.{eqb-true}
use Rattle.units.specs.Integer.{sum, total}
use Rattle.units.specs.Voltage.{voltage_limit}
use Rattle.units.proofs.NumbersWhere.{named_holds, named_few}
use Rattle.units.proofs.Sizes.{sum_more, total_none, total_more, total_grows}
use Rattle.network.specs.Network.{Network, pick, reading, leaving, net, conductance_of, steepest_of, held_by_branch, held, steepest_by, steepest, leak_limit}
use Rattle.network.specs.Kind.{has_curve}
use Rattle.network.specs.Elements.{touches, elements_at}
use Rattle.network.specs.Move.{other_end}
use Rattle.network.proofs.Ranges.{leaving_fits, partial_sum_small, held_fits, steepest_fits}
use Rattle.network.proofs.Elements.{net_over, held_over, steepest_over}
use Rattle.circuit.specs.Index.{end_number}
use Rattle.circuit.specs.Board.{leak_on, nodes_on, count_on, kind_on, p_on, q_on, start_on, end_on, branch_on, network_on, held_from, Laid, Evaluable, flow_on, node_on, other_on, leaving_on}
use Rattle.circuit.proofs.BoardLaws.{few_elements}
use Rattle.circuit.proofs.IndexLaws.{half, after_fits, end_there, many_is}

-- ---- what an element adds at a node, told by the end that the node is

-- the end says which of the two it is
told {ℓ} : {A : Type ℓ} (a b c : A) (j : ℕ) (s t : Bool) → pick s t true true false ≡ true → cond (eqb ((2 * j + pick s t 0 1 0) % 2) 0) a b ≡ pick s t a b c
told a b c j true t e = let z : (2 * j + 0) % 2 ≡ 0 = omega arith in rw z
told a b c j false true e = let z : (2 * j + 1) % 2 ≡ 1 = omega arith in rw z
told a b c j false false e = absurd (true≢false (sym e))

-- .. and what is the same at both needs no telling
either {ℓ} : {A : Type ℓ} (a c : A) (s t : Bool) → pick s t true true false ≡ true → a ≡ pick s t a a c
either a c true t e = refl
either a c false true e = refl
either a c false false e = absurd (true≢false (sym e))

module _ (board : List ℕ) (stretches : List ℤ) (i j : ℕ) where
  abbrev N : Network
  N = network_on board stretches

  abbrev s : Bool
  s = eqb i (p_on board j)

  abbrev t : Bool
  t = eqb i (q_on board j)

  held_is : held_by_branch N (branch_on board stretches j) i ≡ pick s t (held_from board j (q_on board j)) (held_from board j (p_on board j)) 0
  unfolding held_by_branch branch_on conductance_of
  held_is = go (has_curve (kind_on board j)) refl
    where
      go : (b : Bool) → has_curve (kind_on board j) ≡ b → held_by_branch N (branch_on board stretches j) i ≡ pick s t (held_from board j (q_on board j)) (held_from board j (p_on board j)) 0
      go true e = rw e
      go false e = rw e

  held_either : (b : Bool) → held_from board j (cond b (q_on board j) (p_on board j)) ≡ cond b (held_from board j (q_on board j)) (held_from board j (p_on board j))
  held_either true = refl
  held_either false = refl

  module _ (here : touches N i j ≡ true) where
    pub leaving_by : (stored volts : List ℤ) → leaving_on board stretches stored volts (end_number N i j) ≡ leaving 1 (branch_on board stretches j) (reading stored j) (reading volts) i
    unfolding leaving branch_on
    leaving_by stored volts = let c = flow_on board stretches stored volts j in rw (half j s t) (told c (neg_ℤ c) (pos 0) j s t here)

    pub node_by : node_on board (end_number N i j) ≡ i
    unfolding branch_on
    node_by = rw (half j s t) (told (p_on board j) (q_on board j) 0 j s t here ∙ go s t refl refl here)
      where
        go : (a b : Bool) → eqb i (p_on board j) ≡ a → eqb i (q_on board j) ≡ b → pick a b true true false ≡ true → pick a b (p_on board j) (q_on board j) 0 ≡ i
        go true b e f h = sym (eqb-true i (p_on board j) e)
        go false true e f h = sym (eqb-true i (q_on board j) f)
        go false false e f h = absurd (true≢false (sym h))

    pub other_by : other_on board (end_number N i j) ≡ other_end N i j
    unfolding branch_on
    other_by = rw (half j s t) (told (q_on board j) (p_on board j) 0 j s t here)

    pub held_by : held_from board (end_number N i j / 2) (other_on board (end_number N i j)) ≡ held_by_branch N (branch_on board stretches j) i
    unfolding branch_on
    held_by = rw (half j s t) (held_either (eqb ((2 * j + pick s t 0 1 0) % 2) 0) ∙ told (held_from board j (q_on board j)) (held_from board j (p_on board j)) 0 j s t here ∙ sym held_is)

    pub steepest_by_lem : steepest_of (branch_on board stretches (end_number N i j / 2)).law ≡ steepest_by (branch_on board stretches j) i
    unfolding steepest_by branch_on
    steepest_by_lem = rw (half j s t) (either (steepest_of (branch_on board stretches j).law) 0 s t here)

-- ---- the element at a place of the index, which is one of node i's

module _ (board : List ℕ) (stretches : List ℤ) (laid : Laid board stretches) (i : ℕ) (there : i ≤ nodes_on board) (k : ℕ) (low : start_on board i ≤ k) (high : k < start_on board (i + 1)) where
  -- the how manieth of them it is, and which
  abbrev place : ℕ
  place = k - start_on board i

  abbrev pub element : ℕ
  element = get_or (elements_at (network_on board stretches) i) place 0

  listed : place < length (elements_at (network_on board stretches) i)
  listed = omega (arith, many_is board stretches laid i there)

  end_here : end_on board k ≡ end_number (network_on board stretches) i element
  end_here = let e : k ≡ start_on board i + place = omega arith in ap (end_on board) e ∙ end_there board stretches laid i there place listed

  pub here : touches (network_on board stretches) i element ≡ true
  here = (named_holds (touches (network_on board stretches) i) (count_on board) place listed).1

  pub element_here : element < count_on board
  element_here = (named_holds (touches (network_on board stretches) i) (count_on board) place listed).0

  pub place_fits : k < 64
  place_fits = omega (arith, after_fits board stretches laid i there)

  pub end_element : end_on board k / 2 < count_on board
  unfolding branch_on
  end_element = omega (arith, element_here, ap (λ (e : ℕ). e / 2) end_here, half element (eqb i (p_on board element)) (eqb i (q_on board element)))

  pub end_fits : end_on board k < 64
  end_fits = omega (arith, end_element, few_elements board stretches laid)

  pub node_here : node_on board (end_on board k) ≡ i
  node_here = ap (node_on board) end_here ∙ node_by board stretches i element here

  pub other_here : other_on board (end_on board k) ≡ other_end (network_on board stretches) i element
  other_here = ap (other_on board) end_here ∙ other_by board stretches i element here

  pub leaving_here : (stored volts : List ℤ) → leaving_on board stretches stored volts (end_on board k) ≡ leaving 1 (branch_on board stretches element) (reading stored element) (reading volts) i
  leaving_here stored volts = ap (leaving_on board stretches stored volts) end_here ∙ leaving_by board stretches i element here stored volts

  pub held_here : held_from board (end_on board k / 2) (other_on board (end_on board k)) ≡ held_by_branch (network_on board stretches) (branch_on board stretches element) i
  held_here = ap (λ (e : ℕ). held_from board (e / 2) (other_on board e)) end_here ∙ held_by board stretches i element here

  pub steepest_here : steepest_of (branch_on board stretches (end_on board k / 2)).law ≡ steepest_by (branch_on board stretches element) i
  steepest_here = ap (λ (e : ℕ). steepest_of (branch_on board stretches (e / 2)).law) end_here ∙ steepest_by_lem board stretches i element here

-- ---- net current

-- the leak's current, and those by node i's ends before place k
unfoldable pub net_to : (board : List ℕ) (stretches stored volts : List ℤ) (i k : ℕ) → ℤ
net_to board stretches stored volts i k =
    pos (leak_on board) *ℤ reading volts i
    +ℤ sum (λ (t : ℕ). leaving 1 (branch_on board stretches (get_or (elements_at (network_on board stretches) i) t 0)) (reading stored (get_or (elements_at (network_on board stretches) i) t 0)) (reading volts) i) (k - start_on board i)

module _ (board : List ℕ) (stretches stored volts : List ℤ) (given : Evaluable board stretches stored volts) (i : ℕ) (there : i ≤ nodes_on board) where
  abbrev laid : Laid board stretches
  laid = given.ready.laid

  abbrev each : ℕ → ℤ
  each t = leaving 1 (branch_on board stretches (get_or (elements_at (network_on board stretches) i) t 0)) (reading stored (get_or (elements_at (network_on board stretches) i) t 0)) (reading volts) i

  pub leak_fits : leak_on board * nat_abs (reading volts i) ≤ leak_limit * voltage_limit
  leak_fits = mul-le-mul laid.limits.leak_small (given.ranged i there)

  pub net_none : net_to board stretches stored volts i (start_on board i) ≡ pos (leak_on board) *ℤ reading volts i
  unfolding net_to sum
  net_none = let e : start_on board i - start_on board i ≡ 0 = omega arith in rw e (+ℤ_idr _)

  pub net_all : net_to board stretches stored volts i (start_on board (i + 1)) ≡ net 1 (network_on board stretches) (reading stored) (reading volts) i
  unfolding net_to
  net_all = rw (many_is board stretches laid i there) (net_over (network_on board stretches) i 1 (reading stored) (reading volts))

  module _ (k : ℕ) (low : start_on board i ≤ k) (high : k < start_on board (i + 1)) where
    pub net_more : net_to board stretches stored volts i (k + 1) ≡ net_to board stretches stored volts i k +ℤ leaving_on board stretches stored volts (end_on board k)
    unfolding net_to
    net_more =
        let e : k + 1 - start_on board i ≡ k - start_on board i + 1 = omega arith in
        rw (e, sum_more each (k - start_on board i), leaving_here board stretches laid i there k low high stored volts, +ℤ_assoc)

    -- one more still fits
    pub net_fits_more : nat_abs (net_to board stretches stored volts i k) + nat_abs (leaving_on board stretches stored volts (end_on board k)) < 2 ^ 63
    unfolding net_to
    net_fits_more =
        let N = network_on board stretches in
        let limits = laid.limits in
        let here = listed board stretches laid i there k low high in
        let element : ℕ → ℕ = λ t. get_or (elements_at N i) t 0 in
        omega (
          arith,
          few_elements board stretches laid,
          here,
          named_few (touches N i) (count_on board),
          partial_sum_small N limits (reading stored) (reading volts) given.kept given.ranged i (k - start_on board i) element there (λ t l. (named_holds (touches N i) (count_on board) t (omega (arith, here))).0),
          ap nat_abs (leaving_here board stretches laid i there k low high stored volts),
          leaving_fits N limits (reading stored) (reading volts) given.kept given.ranged i (element (k - start_on board i)) (element_here board stretches laid i there k low high),
        )

-- ---- held conductance and steepest sum

-- the leak, and what the element at each place before k adds
abbrev pub added : List ℕ → (ℕ → ℕ) → ℕ → ℕ → ℕ
added board f i k = leak_on board + total f (k - start_on board i)

-- what the element at place t of node i's list adds to each
abbrev pub held_each : List ℕ → List ℤ → ℕ → ℕ → ℕ
held_each board stretches i t = held_by_branch (network_on board stretches) (branch_on board stretches (get_or (elements_at (network_on board stretches) i) t 0)) i

abbrev pub steepest_each : List ℕ → List ℤ → ℕ → ℕ → ℕ
steepest_each board stretches i t = steepest_by (branch_on board stretches (get_or (elements_at (network_on board stretches) i) t 0)) i

module _ (board : List ℕ) (i : ℕ) (f : ℕ → ℕ) where
  pub added_none : added board f i (start_on board i) ≡ leak_on board
  added_none = let e : start_on board i - start_on board i ≡ 0 = omega arith in omega (arith, ap (total f) e, total_none f)

  added_more : (k : ℕ) → start_on board i ≤ k → added board f i (k + 1) ≡ added board f i k + f (k - start_on board i)
  added_more k low = let e : k + 1 - start_on board i ≡ k - start_on board i + 1 = omega arith in omega (arith, ap (total f) e, total_more f (k - start_on board i))

  added_grows : (k n : ℕ) → k ≤ n → added board f i k ≤ added board f i n
  added_grows k n l = omega (arith, total_grows f (k - start_on board i) (n - start_on board i) (omega arith))

module _ (board : List ℕ) (stretches : List ℤ) (laid : Laid board stretches) (i : ℕ) (there : i ≤ nodes_on board) where
  pub held_all : added board (held_each board stretches i) i (start_on board (i + 1)) ≡ held (network_on board stretches) i
  held_all = rw (many_is board stretches laid i there) (held_over (network_on board stretches) i)

  pub steepest_all : added board (steepest_each board stretches i) i (start_on board (i + 1)) ≡ steepest (network_on board stretches) i
  steepest_all = rw (many_is board stretches laid i there) (steepest_over (network_on board stretches) i)

  -- one more, and it still fits
  module _ (k : ℕ) (low : start_on board i ≤ k) (high : k < start_on board (i + 1)) where
    pub held_more : added board (held_each board stretches i) i (k + 1) ≡ added board (held_each board stretches i) i k + held_from board (end_on board k / 2) (other_on board (end_on board k))
    held_more = omega (arith, added_more board i (held_each board stretches i) k low, held_here board stretches laid i there k low high)

    pub steepest_more : added board (steepest_each board stretches i) i (k + 1) ≡ added board (steepest_each board stretches i) i k + steepest_of (branch_on board stretches (end_on board k / 2)).law
    steepest_more = omega (arith, added_more board i (steepest_each board stretches i) k low, steepest_here board stretches laid i there k low high)

    pub held_fits_more : added board (held_each board stretches i) i (k + 1) < 2 ^ 36
    held_fits_more = omega (arith, added_grows board i (held_each board stretches i) (k + 1) (start_on board (i + 1)) (omega arith), held_all, held_fits (network_on board stretches) laid.limits i)

    pub steepest_fits_more : added board (steepest_each board stretches i) i (k + 1) < 2 ^ 36
    steepest_fits_more = omega (arith, added_grows board i (steepest_each board stretches i) (k + 1) (start_on board (i + 1)) (omega arith), steepest_all, steepest_fits (network_on board stretches) laid.limits i)
