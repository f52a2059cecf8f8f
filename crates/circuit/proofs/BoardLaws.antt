-- What a board that is ready says of its elements. Assumes nothing.
use mathlib.Core.Path.{◌≡◌, refl, ap}
use mathlib.Core.Bool.{Bool, true, false, cond}
use mathlib.Core.List.{List}
use Prim.Native.Nat.{ℕ, ◌/◌, ◌%◌, ◌≤◌, ◌<◌}
use native.Mathlib.Omega.{arith}
use lib.Dec.{eqb}
use lib.IntN.{ℤ, pos, nat_abs, ◌*ℤ◌, ◌-ℤ◌}
use Rattle.units.specs.Voltage.{Within}
use Rattle.units.proofs.Integers.{scale_one}
use Rattle.network.specs.Network.{conductance, curve, pick, reading, current, conductance_of, greatest, steepest_of, conductance_limit, breakpoint_limit, current_bound}
use Rattle.network.proofs.Ranges.{difference_fits, current_fits}
use Rattle.network.specs.Kind.{has_curve}
use Rattle.stretch.specs.Stretch.{slopes_in, breakpoints_in, curve_current}
use Rattle.std.specs.Prelude.{Some, None}
use Rattle.circuit.specs.declared.branch.End.TheVariants.{P, Q}
use Rattle.circuit.specs.Board.{nodes_on, count_on, kind_on, p_on, q_on, conductance_on, first_on, breakpoints_on, branch_on, network_on, plain_conductance, Laid, Ranged, Evaluable, Ends, across_on, flow_on, other_on}

-- ---- which end a node is

module _ {ℓ} {A : Type ℓ} (a b c : A) where
  pub end_p : (s t : Bool) → Some P ≡ pick s t (Some P) (Some Q) None → pick s t a b c ≡ a
  end_p true t e = refl
  end_p false true e = absurd cc
  end_p false false e = absurd cc

  pub end_q : (s t : Bool) → Some Q ≡ pick s t (Some P) (Some Q) None → pick s t a b c ≡ b
  end_q true t e = absurd cc
  end_q false true e = refl
  end_q false false e = absurd cc

  pub end_neither : (s t : Bool) → None ≡ pick s t (Some P) (Some Q) None → pick s t a b c ≡ c
  end_neither true t e = absurd cc
  end_neither false true e = absurd cc
  end_neither false false e = refl

-- ---- element j

module _ (board : List ℕ) (stretches : List ℤ) (j : ℕ) where
  -- where it has a curve
  module _ (e : has_curve (kind_on board j) ≡ true) where
    pub curve_law : (branch_on board stretches j).law ≡ curve (slopes_in stretches (first_on board j) (breakpoints_on board j)) (breakpoints_in stretches (first_on board j) (breakpoints_on board j))
    unfolding branch_on
    curve_law = rw e

    pub curve_current_lem : (x v : ℤ) → curve_current stretches (first_on board j) (breakpoints_on board j) v ≡ current 1 (branch_on board stretches j).law x v
    unfolding current
    curve_current_lem x v = rw curve_law

    pub curve_steepest : greatest (slopes_in stretches (first_on board j) (breakpoints_on board j)) ≡ steepest_of (branch_on board stretches j).law
    unfolding steepest_of
    curve_steepest = rw curve_law

  -- and where it has none
  module _ (e : has_curve (kind_on board j) ≡ false) where
    pub conductance_law : (branch_on board stretches j).law ≡ conductance (conductance_on board j)
    unfolding branch_on
    conductance_law = rw e

    pub conductance_current : (x v : ℤ) → pos (conductance_on board j) *ℤ v -ℤ x ≡ current 1 (branch_on board stretches j).law x v
    unfolding current
    conductance_current x v = rw (conductance_law, scale_one x)

    pub conductance_steepest : conductance_on board j ≡ steepest_of (branch_on board stretches j).law
    unfolding steepest_of
    conductance_steepest = rw conductance_law

  -- its conductance, whatever it is
  pub conductance_is : plain_conductance board j ≡ conductance_of (branch_on board stretches j).law
  unfolding branch_on conductance_of
  conductance_is = go (has_curve (kind_on board j)) refl
    where
      go : (t : Bool) → has_curve (kind_on board j) ≡ t → plain_conductance board j ≡ conductance_of (branch_on board stretches j).law
      go true e = rw e
      go false e = rw e

module _ (board : List ℕ) (stretches : List ℤ) (laid : Laid board stretches) where
  pub few_nodes : nodes_on board ≤ 15
  few_nodes = laid.limits.few_nodes

  pub few_elements : count_on board ≤ 32
  few_elements = laid.limits.few_branches

  module _ (j : ℕ) (there : j < count_on board) where
    pub conductance_fits_lem : has_curve (kind_on board j) ≡ false → conductance_on board j ≤ conductance_limit
    conductance_fits_lem e = (rw (conductance_law board stretches j e) at (laid.limits.laws j there)).1

    -- whether it has a curve is told by its conductance
    pub curve_told : conductance_on board j ≡ 0 → has_curve (kind_on board j) ≡ true
    curve_told z = go (has_curve (kind_on board j)) refl
      where
        go : (b : Bool) → has_curve (kind_on board j) ≡ b → b ≡ true
        go true e = refl
        go false e = absurd (omega (arith, (rw (conductance_law board stretches j e) at (laid.limits.laws j there)).0))

    pub straight_told : (conductance_on board j ≡ 0 → ⊥) → has_curve (kind_on board j) ≡ false
    straight_told some = go (has_curve (kind_on board j)) refl
      where
        go : (b : Bool) → has_curve (kind_on board j) ≡ b → b ≡ false
        go true e = absurd (some (laid.no_conductance j there e))
        go false e = refl

    pub p_node : p_on board j ≤ nodes_on board
    unfolding branch_on
    p_node = laid.limits.wired.p_there j there

    pub q_node : q_on board j ≤ nodes_on board
    unfolding branch_on
    q_node = laid.limits.wired.q_there j there

    pub ends : (volts : List ℤ) → Ranged board volts → Ends board volts j
    ends volts ranged = record {
      element = omega (arith, few_elements);
      p_there = omega (arith, few_nodes, p_node);
      q_there = omega (arith, few_nodes, q_node);
      p_range = ranged (p_on board j) p_node;
      q_range = ranged (q_on board j) q_node;
    }

    pub across_fits : (volts : List ℤ) → Ranged board volts → Within breakpoint_limit (across_on board volts j)
    across_fits volts ranged = difference_fits (reading volts (p_on board j)) (reading volts (q_on board j)) (ranged (p_on board j) p_node) (ranged (q_on board j) q_node)

  -- the other end is at a node too
  pub other_node : (end : ℕ) → end / 2 < count_on board → other_on board end ≤ nodes_on board
  other_node end there = go (eqb (end % 2) 0)
    where
      go : (b : Bool) → cond b (q_on board (end / 2)) (p_on board (end / 2)) ≤ nodes_on board
      go true = q_node (end / 2) there
      go false = p_node (end / 2) there

-- ---- at given voltages and stored currents

module _ (board : List ℕ) (stretches stored volts : List ℤ) (given : Evaluable board stretches stored volts) where
  pub flow_fits : (j : ℕ) → j < count_on board → nat_abs (flow_on board stretches stored volts j) ≤ current_bound
  unfolding branch_on
  flow_fits j there = current_fits (network_on board stretches) given.ready.laid.limits (reading stored) (reading volts) given.kept given.ranged j there
