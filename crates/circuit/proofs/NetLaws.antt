-- What an element carries more at another voltage and once the node at an end of it is moved, and the net currents that a walk over a moved node's ends keeps. Assumes nothing.
use mathlib.Core.Path.{◌≡◌, refl, sym, ◌∙◌, ap}
use mathlib.Core.Bool.{Bool, true, false, cond}
use mathlib.Core.List.{List}
use mathlib.Core.Logic.{⊎_elim}
use Prim.Native.Nat.{ℕ, ◌+◌, ◌*◌, ◌-◌, ◌/◌, ◌%◌, ◌^◌, ◌≤◌, ◌<◌}
use native.Mathlib.Nat.{mul-le-mul}
use native.Mathlib.Omega.{arith}
use lib.Dec.{eqb}
use lib.IntN.{ℤ, pos, neg_ℤ, nat_abs, ◌+ℤ◌, ◌-ℤ◌, ◌*ℤ◌, +ℤ_idr, +ℤ_assoc}
use lib.ListN.{length, set, length-set}
use lib.Seq.{get_or-set_same, get_or-set_other}
use borrow.Author.Tests.{eqb-true, eqb-false}
use Rattle.units.specs.Integer.{sum}
use Rattle.units.specs.Voltage.{voltage_limit, Within, InRange}
use Rattle.units.proofs.Integers.{signs, decide_n, add_law, sub_law, neg_law, scale_sub}
use Rattle.units.proofs.Sizes.{abs_sub, abs_mul, sum_more}
use Rattle.network.specs.Network.{Network, pick, reading, current, leaving, net, branch_limit, leak_limit, conductance_limit, breakpoint_limit, current_bound}
use Rattle.network.proofs.Ranges.{difference_fits, partial_sum_small}
use Rattle.network.specs.Kind.{has_curve}
use Rattle.network.specs.Move.{Still, more_by_branch, part_moved}
use Rattle.network.proofs.Moves.{more_other, more_elsewhere, moved_none, moved_more, moved_all, moved_small, more_small}
use Rattle.circuit.specs.Board.{leak_on, nodes_on, count_on, kind_on, p_on, q_on, conductance_on, start_on, end_on, branch_on, network_on, Laid, Ranged, Evaluable, across_on, flow_on, node_on, other_on, leaving_on}
use Rattle.circuit.specs.Nets.{Leaked, Netted, Moved, Spread}
use Rattle.circuit.proofs.BoardLaws.{few_nodes, few_elements, p_node, q_node, other_node, conductance_current, flow_fits}
use Rattle.circuit.proofs.IndexLaws.{after_is, many_is}
use Rattle.circuit.proofs.NodeLaws.{element, here, element_here, end_element, node_here, other_here, leaving_here}

-- ---- one element

-- what a conductance carries more: what it stores falls out
pub straight_gained : (g : ℕ) (x old new : ℤ) → pos g *ℤ (new -ℤ old) ≡ (pos g *ℤ new -ℤ x) -ℤ (pos g *ℤ old -ℤ x)
straight_gained g x old new =
    rw (scale_sub g new old)
    (omega (
      signs,
      sub_law (pos g *ℤ new) (pos g *ℤ old),
      sub_law (pos g *ℤ new -ℤ x) (pos g *ℤ old -ℤ x),
      sub_law (pos g *ℤ new) x,
      sub_law (pos g *ℤ old) x,
    ))

pub straight_fits : (g : ℕ) (old new : ℤ) → g ≤ conductance_limit → Within breakpoint_limit old → Within breakpoint_limit new → g * nat_abs (new -ℤ old) ≤ 2 ^ 57
straight_fits g old new small a b =
    let far : nat_abs (new -ℤ old) ≤ 2 ^ 27 = omega (arith, abs_sub new old) in
    let m : g * nat_abs (new -ℤ old) ≤ conductance_limit * 2 ^ 27 = mul-le-mul small far in
    omega arith

-- ---- one end

-- the voltage of an end's element, from p to q, where the node at the end stands at `own` and the one at the other end at `other`
abbrev facing : ℕ → ℤ → ℤ → ℤ
facing end own other = cond (eqb (end % 2) 0) (own -ℤ other) (other -ℤ own)

facing_is : (board : List ℕ) (volts : List ℤ) (end : ℕ) → facing end (reading volts (node_on board end)) (reading volts (other_on board end)) ≡ across_on board volts (end / 2)
facing_is board volts end = go (eqb (end % 2) 0)
  where
    go : (b : Bool) → cond b (reading volts (cond b (p_on board (end / 2)) (q_on board (end / 2))) -ℤ reading volts (cond b (q_on board (end / 2)) (p_on board (end / 2)))) (reading volts (cond b (q_on board (end / 2)) (p_on board (end / 2))) -ℤ reading volts (cond b (p_on board (end / 2)) (q_on board (end / 2)))) ≡ across_on board volts (end / 2)
    go true = refl
    go false = refl

-- a current's change with the sign of its end
signed_more : (b : Bool) (new old : ℤ) → cond b (new -ℤ old) (old -ℤ new) ≡ cond b new (neg_ℤ new) -ℤ cond b old (neg_ℤ old)
signed_more true new old = refl
signed_more false new old = omega (signs, sub_law old new, sub_law (neg_ℤ new) (neg_ℤ old), neg_law new, neg_law old)

module _ (board : List ℕ) (stretches : List ℤ) (laid : Laid board stretches) (end : ℕ) (there : end / 2 < count_on board) where
  pub node_node : node_on board end ≤ nodes_on board
  node_node = go (eqb (end % 2) 0)
    where
      go : (b : Bool) → cond b (p_on board (end / 2)) (q_on board (end / 2)) ≤ nodes_on board
      go true = p_node board stretches laid (end / 2) there
      go false = q_node board stretches laid (end / 2) there

  pub ends_apart : other_on board end ≡ node_on board end → ⊥
  unfolding branch_on
  ends_apart = go (eqb (end % 2) 0)
    where
      go : (b : Bool) → cond b (q_on board (end / 2)) (p_on board (end / 2)) ≡ cond b (p_on board (end / 2)) (q_on board (end / 2)) → ⊥
      go true e = laid.limits.two_ended (end / 2) there (sym e)
      go false e = laid.limits.two_ended (end / 2) there e

  -- the node at the end is moved to v
  module _ (stored volts : List ℤ) (long : length volts ≡ 16) (v : ℤ) where
    abbrev j : ℕ
    j = end / 2

    abbrev after : List ℤ
    after = set volts (node_on board end) v

    abbrev own : ℤ
    own = reading volts (node_on board end)

    abbrev other : ℤ
    other = reading volts (other_on board end)

    -- the voltage of the element before and afterwards
    across_before : facing end own other ≡ across_on board volts j
    across_before = facing_is board volts end

    across_after : facing end v other ≡ across_on board after j
    across_after =
        let own_is : reading after (node_on board end) ≡ v = get_or-set_same volts (node_on board end) v (pos 0) (omega (arith, node_node, few_nodes board stretches laid)) in
        let other-is : reading after (other_on board end) ≡ other = get_or-set_other volts (node_on board end) (other_on board end) v (pos 0) ends_apart in
        ap (λ (u : ℤ). facing end u other) (sym own_is) ∙ ap (facing end (reading after (node_on board end))) (sym other-is) ∙ facing_is board after end

    abbrev more : ℤ
    more = leaving_on board stretches stored after end -ℤ leaving_on board stretches stored volts end

    -- what the element carries more, taken at the end p from the old voltage to the new one and at the end q from the new one to the old one
    abbrev turned : Bool → (ℤ → ℤ) → ℤ
    turned b c = cond b (c (v -ℤ other) -ℤ c (own -ℤ other)) (c (other -ℤ own) -ℤ c (other -ℤ v))

    faced : (c : ℤ → ℤ) → turned (eqb (end % 2) 0) c ≡ cond (eqb (end % 2) 0) (c (facing end v other) -ℤ c (facing end own other)) (c (facing end own other) -ℤ c (facing end v other))
    faced c = go (eqb (end % 2) 0)
      where
        go : (b : Bool) → cond b (c (v -ℤ other) -ℤ c (own -ℤ other)) (c (other -ℤ own) -ℤ c (other -ℤ v)) ≡ cond b (c (cond b (v -ℤ other) (other -ℤ v)) -ℤ c (cond b (own -ℤ other) (other -ℤ own))) (c (cond b (own -ℤ other) (other -ℤ own)) -ℤ c (cond b (v -ℤ other) (other -ℤ v)))
        go true = refl
        go false = refl

    abbrev carried : ℤ → ℤ
    carried u = current 1 (branch_on board stretches j).law (reading stored j) u

    pub end_more : (b : Bool) → eqb (end % 2) 0 ≡ b → turned b carried ≡ more
    end_more b e =
        ap (λ (t : Bool). turned t carried) (sym e)
        ∙ faced carried
        ∙ rw (across_after, across_before) (signed_more (eqb (end % 2) 0) (carried (across_on board after j)) (carried (across_on board volts j)))

    -- .. and of a conductance it is the same at either end
    pub straight_more : has_curve (kind_on board j) ≡ false → pos (conductance_on board j) *ℤ (v -ℤ own) ≡ more
    straight_more e = go (eqb (end % 2) 0) refl
      where
        between : (old new : ℤ) → v -ℤ own ≡ new -ℤ old → pos (conductance_on board j) *ℤ (v -ℤ own) ≡ carried new -ℤ carried old
        between old new way =
            ap (λ (z : ℤ). pos (conductance_on board j) *ℤ z) way
            ∙ straight_gained (conductance_on board j) (reading stored j) old new
            ∙ rw (conductance_current board stretches j e (reading stored j) new, conductance_current board stretches j e (reading stored j) old)

        go : (b : Bool) → eqb (end % 2) 0 ≡ b → pos (conductance_on board j) *ℤ (v -ℤ own) ≡ more
        go true is = between (own -ℤ other) (v -ℤ other) (omega (signs, sub_law v own, sub_law (v -ℤ other) (own -ℤ other), sub_law v other, sub_law own other)) ∙ end_more true is
        go false is = between (other -ℤ v) (other -ℤ own) (omega (signs, sub_law v own, sub_law (other -ℤ own) (other -ℤ v), sub_law other own, sub_law other v)) ∙ end_more false is

-- ---- one leak's current after the other

-- the first n nodes have theirs
abbrev pub LeakedTo : List ℕ → List ℤ → ℕ → List ℤ → Type 0
LeakedTo board volts n nets = (length nets ≡ 16) × ((m : ℕ) → m < n → reading nets m ≡ pos (leak_on board) *ℤ reading volts m)

pub leaked_more : (board : List ℕ) (volts : List ℤ) (n : ℕ) (nets : List ℤ) (y : ℤ) → n < 16 → y ≡ pos (leak_on board) *ℤ reading volts n → LeakedTo board volts n nets → LeakedTo board volts (n + 1) (set nets n y)
leaked_more board volts n nets y room is so = (length-set nets n y ∙ so.0, each)
  where
    each : (m : ℕ) → m < n + 1 → reading (set nets n y) m ≡ pos (leak_on board) *ℤ reading volts m
    each m l = ⊎_elim
        (λ (h : n ≤ m). let e : m ≡ n = omega arith in rw e (get_or-set_same nets n y (pos 0) (omega (arith, so.0)) ∙ is))
        (λ (h : m < n). get_or-set_other nets n m y (pos 0) (λ e. omega arith) ∙ so.1 m h) (decide_n n m)

-- ---- one element after the other

-- the net current of node m by the leak and the first n elements
unfoldable pub net_by : (board : List ℕ) (stretches stored volts : List ℤ) (n m : ℕ) → ℤ
net_by board stretches stored volts n m =
    pos (leak_on board) *ℤ reading volts m
    +ℤ sum (λ (t : ℕ). leaving 1 (branch_on board stretches t) (reading stored t) (reading volts) m) n

-- every node has it in its place
abbrev pub NettedBy : List ℕ → List ℤ → List ℤ → List ℤ → ℕ → List ℤ → Type 0
NettedBy board stretches stored volts n nets = (length nets ≡ 16) × ((m : ℕ) → m ≤ nodes_on board → reading nets m ≡ net_by board stretches stored volts n m)

module _ (board : List ℕ) (stretches stored volts : List ℤ) where
  by_none : (m : ℕ) → net_by board stretches stored volts 0 m ≡ pos (leak_on board) *ℤ reading volts m
  unfolding net_by sum
  by_none m = +ℤ_idr _

  pub netted_none : (nets : List ℤ) → Leaked board volts nets → NettedBy board stretches stored volts 0 nets
  netted_none nets leaked = (leaked.long, λ m h. leaked.each m h ∙ sym (by_none m))

  by_all : (m : ℕ) → net_by board stretches stored volts (count_on board) m ≡ net 1 (network_on board stretches) (reading stored) (reading volts) m
  unfolding net_by net
  by_all m = refl

  pub netted_all : (n : ℕ) (nets : List ℤ) → n ≡ count_on board → NettedBy board stretches stored volts n nets → Netted board stretches stored volts nets
  netted_all n nets e so = record { long = so.0; each = λ m h. so.1 m h ∙ ap (λ (t : ℕ). net_by board stretches stored volts t m) e ∙ by_all m }

  -- element n is counted
  module _ (given : Evaluable board stretches stored volts) (n : ℕ) (there : n < count_on board) where
    abbrev p : ℕ
    p = p_on board n

    abbrev q : ℕ
    q = q_on board n

    abbrev c : ℤ
    c = flow_on board stretches stored volts n

    pub p_not_q : q ≡ p → ⊥
    unfolding branch_on
    p_not_q e = given.ready.laid.limits.two_ended n there (sym e)

    by_more : (m : ℕ) → net_by board stretches stored volts (n + 1) m ≡ net_by board stretches stored volts n m +ℤ pick (eqb m p) (eqb m q) c (neg_ℤ c) (pos 0)
    unfolding net_by leaving branch_on
    by_more m = rw (sum_more (λ (t : ℕ). leaving 1 (branch_on board stretches t) (reading stored t) (reading volts) m) n, +ℤ_assoc)

    -- one more still fits
    pub by_fits : (m : ℕ) → m ≤ nodes_on board → nat_abs (net_by board stretches stored volts n m) + nat_abs c < 2 ^ 63
    unfolding net_by
    by_fits m h =
        let laid = given.ready.laid in
        omega (
          arith,
          few_elements board stretches laid,
          partial_sum_small (network_on board stretches) laid.limits (reading stored) (reading volts) given.kept given.ranged m n (λ (t : ℕ). t) h (λ t l. omega arith),
          flow_fits board stretches stored volts given n there,
        )

    pub netted_more : (nets : List ℤ) (x y : ℤ) → x ≡ reading nets p +ℤ c → y ≡ reading nets q -ℤ c → NettedBy board stretches stored volts n nets → NettedBy board stretches stored volts (n + 1) (set (set nets p x) q y)
    netted_more nets x y x-is y-is so = (length-set (set nets p x) q y ∙ long, λ m h. go m h (eqb m p) (eqb m q) refl refl)
      where
        long : length (set nets p x) ≡ 16
        long = length-set nets p x ∙ so.0

        go : (m : ℕ) → m ≤ nodes_on board → (s t : Bool) → eqb m p ≡ s → eqb m q ≡ t → reading (set (set nets p x) q y) m ≡ net_by board stretches stored volts (n + 1) m
        go m h true true e f = absurd (p_not_q (sym (eqb-true m q f) ∙ eqb-true m p e))
        go m h true false e f =
            let is : reading (set nets p x) m ≡ reading nets m +ℤ c = rw (eqb-true m p e) (get_or-set_same nets p x (pos 0) (omega (arith, so.0, p_node board stretches given.ready.laid n there, few_nodes board stretches given.ready.laid)) ∙ x-is) in
            get_or-set_other (set nets p x) q m y (pos 0) (eqb-false m q f) ∙ is ∙ ap (λ (z : ℤ). z +ℤ c) (so.1 m h) ∙ sym (by_more m ∙ rw e)
        go m h false true e f =
            let is : reading (set (set nets p x) q y) m ≡ reading nets m -ℤ c = rw (eqb-true m q f) (get_or-set_same (set nets p x) q y (pos 0) (omega (arith, long, q_node board stretches given.ready.laid n there, few_nodes board stretches given.ready.laid)) ∙ y-is) in
            is ∙ ap (λ (z : ℤ). z -ℤ c) (so.1 m h) ∙ sym (by_more m ∙ rw (e, f))
        go m h false false e f = get_or-set_other (set nets p x) q m y (pos 0) (eqb-false m q f) ∙ get_or-set_other nets p m x (pos 0) (eqb-false m p e) ∙ so.1 m h ∙ sym (by_more m ∙ rw (e, f) (+ℤ_idr _))

-- ---- node i is moved to v

-- the net current of node m once the ends of node i before place k are walked
abbrev pub walked : List ℕ → List ℤ → List ℤ → List ℤ → ℕ → ℤ → ℕ → ℕ → ℤ
walked board stretches stored volts i v k m = part_moved (network_on board stretches) (reading stored) (reading volts) (reading (set volts i v)) i (k - start_on board i) m

-- every node but i has it in its place
abbrev pub OthersWalked : List ℕ → List ℤ → List ℤ → List ℤ → ℕ → ℤ → ℕ → List ℤ → Type 0
OthersWalked board stretches stored volts i v k nets = (m : ℕ) → m ≤ nodes_on board → (m ≡ i → ⊥) → reading nets m ≡ walked board stretches stored volts i v k m

module _ (board : List ℕ) (stretches stored volts : List ℤ) (given : Evaluable board stretches stored volts) (long : length volts ≡ 16) (i : ℕ) (there : i ≤ nodes_on board) (v : ℤ) (range : InRange v) where
  abbrev laid : Laid board stretches
  laid = given.ready.laid

  abbrev N : Network
  N = network_on board stretches

  abbrev moved : List ℤ
  moved = set volts i v

  abbrev net-at : ℕ → ℕ → ℤ
  net-at k m = walked board stretches stored volts i v k m

  abbrev more_by : ℕ → ℕ → ℤ
  more_by m j = more_by_branch N (reading stored) (reading volts) (reading moved) m j

  placed : reading moved i ≡ v
  placed = get_or-set_same volts i v (pos 0) (omega (arith, few_nodes board stretches laid))

  still : Still i (reading volts) (reading moved)
  still m away = get_or-set_other volts i m v (pos 0) away

  moved_ranged : Ranged board moved
  moved_ranged m l = go (eqb m i) refl
    where
      go : (b : Bool) → eqb m i ≡ b → InRange (reading moved m)
      go true e = rw (eqb-true m i e, placed) range
      go false e = rw (still m (eqb-false m i e)) (given.ranged m l)

  -- currents can be taken at the new voltages too
  pub moved_evaluable : Evaluable board stretches stored moved
  moved_evaluable = record { ready = given.ready; kept = given.kept; ranged = moved_ranged }

  walked_none : (m : ℕ) → net-at (start_on board i) m ≡ net 1 N (reading stored) (reading volts) m +ℤ pos N.leak *ℤ (reading moved m -ℤ reading volts m)
  walked_none m =
      let e : start_on board i - start_on board i ≡ 0 = omega arith in
      ap (λ (t : ℕ). part_moved N (reading stored) (reading volts) (reading moved) i t m) e ∙ moved_none N (reading stored) (reading volts) (reading moved) i m

  pub walked_none_here : net-at (start_on board i) i ≡ net 1 N (reading stored) (reading volts) i +ℤ pos N.leak *ℤ (v -ℤ reading volts i)
  walked_none_here = walked_none i ∙ ap (λ (z : ℤ). net 1 N (reading stored) (reading volts) i +ℤ pos N.leak *ℤ (z -ℤ reading volts i)) placed

  walked_none_else : (m : ℕ) → (m ≡ i → ⊥) → net-at (start_on board i) m ≡ net 1 N (reading stored) (reading volts) m
  walked_none_else m away =
      let n = net 1 N (reading stored) (reading volts) m in
      let l = pos N.leak *ℤ reading volts m in
      walked_none m ∙ rw (still m away, scale_sub N.leak (reading volts m) (reading volts m)) (omega (signs, add_law n (l -ℤ l), sub_law l l))

  pub others_none : (nets : List ℤ) → Netted board stretches stored volts nets → OthersWalked board stretches stored volts i v (start_on board i) nets
  others_none nets netted m h away = netted.each m h ∙ sym (walked_none_else m away)

  pub walked_all : (m : ℕ) → net-at (start_on board (i + 1)) m ≡ net 1 N (reading stored) (reading moved) m
  walked_all m = rw (many_is board stretches laid i there) (moved_all N (reading stored) (reading volts) (reading moved) i still m)

  pub walked_fits : (k m : ℕ) → k ≤ start_on board (i + 1) → m ≤ nodes_on board → nat_abs (net-at k m) ≤ leak_limit * voltage_limit + branch_limit * current_bound
  walked_fits k m l h = moved_small N (reading stored) (reading volts) (reading moved) i still laid.limits given.kept given.ranged moved_ranged (k - start_on board i) m (omega (arith, many_is board stretches laid i there)) h

  -- what the leak carries more, and what node i begins the walk with
  pub leak_more_fits : leak_on board * nat_abs (v -ℤ reading volts i) ≤ leak_limit * breakpoint_limit
  leak_more_fits = mul-le-mul laid.limits.leak_small (difference_fits v (reading volts i) range (given.ranged i there))

  pub begun_fits : nat_abs (net 1 N (reading stored) (reading volts) i) + nat_abs (pos (leak_on board) *ℤ (v -ℤ reading volts i)) < 2 ^ 63
  begun_fits =
      let n = net 1 N (reading stored) (reading volts) i in
      let l = pos (leak_on board) *ℤ (v -ℤ reading volts i) in
      let e : n ≡ (n +ℤ l) -ℤ l = omega (signs, add_law n l, sub_law (n +ℤ l) l) in
      omega (
        arith,
        ap nat_abs e,
        abs_sub (n +ℤ l) l,
        abs_mul (pos (leak_on board)) (v -ℤ reading volts i),
        leak_more_fits,
        ap nat_abs walked_none_here,
        walked_fits (start_on board i) i (omega (arith, after_is board stretches laid i there)) there,
      )

  -- the element at place k is walked
  module _ (k : ℕ) (low : start_on board i ≤ k) (high : k < start_on board (i + 1)) where
    abbrev reached : ℕ
    reached = element board stretches laid i there k low high

    abbrev far : ℕ
    far = other_on board (end_on board k)

    -- what leaves node i more by it
    abbrev pub more-at : ℤ
    more-at = leaving_on board stretches stored moved (end_on board k) -ℤ leaving_on board stretches stored volts (end_on board k)

    more_is : more-at ≡ more_by i reached
    more_is = rw (leaving_here board stretches laid i there k low high stored moved, leaving_here board stretches laid i there k low high stored volts)

    pub more_fits : nat_abs more-at ≤ 2 * current_bound
    more_fits = rw more_is (more_small N (reading stored) (reading volts) (reading moved) i still laid.limits given.kept given.ranged moved_ranged i reached (element_here board stretches laid i there k low high))

    pub far_node : far ≤ nodes_on board
    far_node = other_node board stretches laid (end_on board k) (end_element board stretches laid i there k low high)

    pub far_away : far ≡ i → ⊥
    far_away e = ends_apart board stretches laid (end_on board k) (end_element board stretches laid i there k low high) (e ∙ sym (node_here board stretches laid i there k low high))

    walked_more : (m : ℕ) → net-at (k + 1) m ≡ net-at k m +ℤ more_by m reached
    walked_more m =
        let e : k + 1 - start_on board i ≡ k - start_on board i + 1 = omega arith in
        ap (λ (t : ℕ). part_moved N (reading stored) (reading volts) (reading moved) i t m) e ∙ moved_more N (reading stored) (reading volts) (reading moved) i (k - start_on board i) m

    pub walked_here : net-at (k + 1) i ≡ net-at k i +ℤ more-at
    walked_here = walked_more i ∙ ap (λ (z : ℤ). net-at k i +ℤ z) (sym more_is)

    walked_far : net-at (k + 1) far ≡ net-at k far -ℤ more-at
    walked_far =
        let there-is = other_here board stretches laid i there k low high in
        let lost = more_other N (reading stored) (reading volts) (reading moved) i reached (here board stretches laid i there k low high) (laid.limits.two_ended reached (element_here board stretches laid i there k low high)) in
        walked_more far ∙ ap (λ (z : ℤ). net-at k far +ℤ z) (ap (λ (m : ℕ). more_by m reached) there-is ∙ lost ∙ ap neg_ℤ (sym more_is))

    walked_elsewhere : (m : ℕ) → (m ≡ i → ⊥) → (m ≡ far → ⊥) → net-at (k + 1) m ≡ net-at k m
    walked_elsewhere m away apart =
        let none = more_elsewhere N (reading stored) (reading volts) (reading moved) i reached (here board stretches laid i there k low high) m away (λ e. apart (e ∙ sym (other_here board stretches laid i there k low high))) in
        walked_more m ∙ ap (λ (z : ℤ). net-at k m +ℤ z) none ∙ +ℤ_idr (net-at k m)

    -- the other end's net current is stored
    pub others_more : (nets : List ℤ) (y : ℤ) → length nets ≡ 16 → OthersWalked board stretches stored volts i v k nets → y ≡ reading nets far -ℤ more-at → OthersWalked board stretches stored volts i v (k + 1) (set nets far y)
    others_more nets y size so is m h away = go (eqb m far) refl
      where
        go : (b : Bool) → eqb m far ≡ b → reading (set nets far y) m ≡ net-at (k + 1) m
        go true e =
            rw (eqb-true m far e)
            (get_or-set_same nets far y (pos 0) (omega (arith, far_node, few_nodes board stretches laid)) ∙ is ∙ ap (λ (z : ℤ). z -ℤ more-at) (so far far_node far_away) ∙ sym walked_far)
        go false e = get_or-set_other nets far m y (pos 0) (eqb-false m far e) ∙ so m h away ∙ sym (walked_elsewhere m away (eqb-false m far e))

-- node i is placed
pub spread_moved : (board : List ℕ) (stretches stored volts : List ℤ) (i : ℕ) (v own : ℤ) (nets : List ℤ) → i < 16 → Spread board stretches stored volts i v own nets → Moved board stretches stored volts i v (set volts i v) (set nets i own)
spread_moved board stretches stored volts i v own nets room spread = record { placed = refl; netted = record { long = length-set nets i own ∙ spread.long; each = λ m h. each m h (eqb m i) refl } }
  where
    each : (m : ℕ) → m ≤ nodes_on board → (b : Bool) → eqb m i ≡ b → reading (set nets i own) m ≡ net 1 (network_on board stretches) (reading stored) (reading (set volts i v)) m
    each m h true e = rw (eqb-true m i e) (get_or-set_same nets i own (pos 0) (omega (arith, spread.long)) ∙ spread.here)
    each m h false e = get_or-set_other nets i m own (pos 0) (eqb-false m i e) ∙ spread.others m h (eqb-false m i e)

-- .. and so the next node can be moved
pub moved_on : (board : List ℕ) (stretches stored before : List ℤ) → Evaluable board stretches stored before → length before ≡ 16 → (i : ℕ) → i ≤ nodes_on board → (v : ℤ) → InRange v → (after nets : List ℤ) → Moved board stretches stored before i v after nets → Evaluable board stretches stored after × (length after ≡ 16)
moved_on board stretches stored before given long i there v range after nets moved = rw moved.placed ((moved_evaluable board stretches stored before given long i there v range, length-set before i v ∙ long))
