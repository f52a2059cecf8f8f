-- Numbers that fit: within document 01's limits every current, every partial sum of a net current and every new stored current fits an i64. Assumes nothing.
use mathlib.Core.Path.{◌∙◌, ap}
use mathlib.Core.Bool.{Bool, true, false, cond}
use mathlib.Core.List.{List, [], ◌∷◌}
use mathlib.Core.Logic.{⊎_elim}
use Prim.Native.Nat.{ℕ, zero, suc, ◌+◌, ◌*◌, ◌^◌, ◌≤◌, ◌<◌}
use native.Mathlib.Omega.{arith}
use native.Mathlib.Nat.{le_refl, mul-le-mul}
use lib.Dec.{eqb, leb}
use lib.ListN.{get_or}
use lib.IntN.{ℤ, pos, neg_ℤ, nat_abs, ◌+ℤ◌, ◌-ℤ◌, ◌*ℤ◌}
use lib.Signed.{◌≤ℤ◌, ◌<ℤ◌}
use Rattle.units.specs.Integer.{up, dn, lower, higher, sum}
use Rattle.units.specs.Voltage.{voltage_limit, Within, InRange}
use Rattle.units.proofs.Integers.{signs, sub_law, pos_law, abs_law, decide, ordered, crossed, scale_one}
use Rattle.units.proofs.Sizes.{abs_within, abs_add, abs_sub, abs_neg, abs_mul, sum_abs, total_small}
use Rattle.network.specs.Network.{Law, conductance, curve, Network, ramp, current, pick, leaving, greatest, conductance_of, steepest_of, held_by_branch, steepest_by, held, steepest, branch_limit, conductance_limit, breakpoint_limit, stored_limit, leak_limit, current_bound, LawInLimits, InLimits}
use Rattle.network.specs.Sample.{Legal, DrivesLegal}
use Rattle.network.proofs.Nodes.{by_node}
use Rattle.network.proofs.Compare.{current_steep}

-- ---- one product, one curve

-- a conductance or a slope times a difference of two voltages, or a breakpoint
pub product_fits : (g : ℕ) (v : ℤ) → g ≤ conductance_limit → Within breakpoint_limit v → nat_abs (pos g *ℤ v) ≤ 2 ^ 56
product_fits g v small near =
    let m : g * nat_abs v ≤ conductance_limit * breakpoint_limit = mul-le-mul small near in
    omega (arith, abs_mul (pos g) v)

pub difference_fits : (a b : ℤ) → InRange a → InRange b → Within breakpoint_limit (a -ℤ b)
difference_fits a b ra rb = omega (arith, abs_sub a b)

lower_within : (L : ℕ) (a b : ℤ) → Within L a → Within L b → Within L (lower a b) × Within L (higher a b)
lower_within L a b ha hb = ⊎_elim
    (λ (h : a ≤ℤ b). (rw (ordered a b h).0 ha, rw (ordered a b h).1 hb))
    (λ (h : b <ℤ a). (rw (crossed a b (omega signs)).0 hb, rw (crossed a b (omega signs)).1 ha)) (decide a b)

greatest_small : (ss : List ℕ) (L : ℕ) → ((j : ℕ) → get_or ss j 0 ≤ L) → greatest ss ≤ L
unfolding greatest
greatest_small [] L h = omega arith
greatest_small (s ∷ ss) L h = omega (arith, h 0, greatest_small ss L (λ j. h (suc j)))

pub steepest_of_small : (l : Law) → LawInLimits l → steepest_of l ≤ conductance_limit
unfolding steepest_of
steepest_of_small (conductance g) h = h.1
steepest_of_small (curve ss bs) h = greatest_small ss conductance_limit h.slope

pub conductance_of_small : (l : Law) → LawInLimits l → conductance_of l ≤ conductance_limit
unfolding conductance_of
conductance_of_small (conductance g) h = h.1
conductance_of_small (curve ss bs) h = omega arith

-- a curve's current is at most its greatest slope times the voltage
curve_small : (k : ℕ) (ss : List ℕ) (bs : List ℤ) (x v : ℤ) → nat_abs (current k (curve ss bs) x v) ≤ greatest ss * nat_abs v
unfolding current steepest_of
curve_small k ss bs x v =
    let f = ramp k ss bs in
    let S = greatest ss in
    let a = current_steep k (curve ss bs) x (pos 0) v (up v) (omega (arith, pos_law 0)) in
    let b = current_steep k (curve ss bs) x v (pos 0) (dn v) (omega (arith, pos_law 0)) in
    abs_within (f v -ℤ f (pos 0)) (S * nat_abs v)
    (omega (arith, ap (λ (n : ℕ). S * n) (abs_law v), sub_law (f (pos 0)) (f (pos 0))))
    (omega (arith, ap (λ (n : ℕ). S * n) (abs_law v), sub_law (f (pos 0)) (f (pos 0))))

pub current_small : (l : Law) (x v : ℤ) → LawInLimits l → Within breakpoint_limit v → Within stored_limit x → nat_abs (current 1 l x v) ≤ current_bound
unfolding current steepest_of
current_small (conductance g) x v h near kept = omega (arith, product_fits g v h.1 near, abs_sub (pos g *ℤ v) (pos 1 *ℤ x), abs_mul (pos 1) x)
current_small (curve ss bs) x v h near kept =
    let m : greatest ss * nat_abs v ≤ conductance_limit * breakpoint_limit = mul-le-mul (greatest_small ss conductance_limit h.slope) near in
    omega (arith, curve_small 1 ss bs x v)

-- ---- a network within limits

-- legal voltages, drives included, are in range
pub legal_in_range : (N : Network) (d v : ℕ → ℤ) → Legal N d v → DrivesLegal N d → (j : ℕ) → j ≤ N.nodes → InRange (v j)
legal_in_range N d v legal drives = by_node N (λ (j : ℕ). InRange (v j)) fixed (λ j f. legal.range j f)
  where
    fixed : (j : ℕ) → j ≤ N.driven → InRange (v j)
    fixed zero f = rw legal.drives.ground (omega arith)
    fixed (suc j) f = rw (legal.drives.driven j f ∙ scale_one (d j)) (omega (arith, drives j f))

module _ (N : Network) (limits : InLimits N) where
  pub steepest_fits : (i : ℕ) → steepest N i < 2 ^ 36
  unfolding steepest steepest_by
  steepest_fits i =
      let s : N.count * conductance_limit ≤ branch_limit * conductance_limit = mul-le-mul limits.few_branches (le_refl conductance_limit) in
      omega (arith, limits.leak_small, total_small (λ (j : ℕ). steepest_by (N.branch j) i) conductance_limit N.count each)
    where
      each : (j : ℕ) → j < N.count → steepest_by (N.branch j) i ≤ conductance_limit
      each j l = go (eqb i (N.branch j).p) (eqb i (N.branch j).q)
        where
          g : ℕ
          g = steepest_of (N.branch j).law

          go : (p q : Bool) → pick p q g g 0 ≤ conductance_limit
          go true q = steepest_of_small (N.branch j).law (limits.laws j l)
          go false true = steepest_of_small (N.branch j).law (limits.laws j l)
          go false false = omega arith

  pub held_fits : (i : ℕ) → held N i < 2 ^ 36
  unfolding held held_by_branch
  held_fits i =
      let s : N.count * conductance_limit ≤ branch_limit * conductance_limit = mul-le-mul limits.few_branches (le_refl conductance_limit) in
      omega (arith, limits.leak_small, total_small (λ (j : ℕ). held_by_branch N (N.branch j) i) conductance_limit N.count each)
    where
      each : (j : ℕ) → j < N.count → held_by_branch N (N.branch j) i ≤ conductance_limit
      each j l = go (eqb i (N.branch j).p) (eqb i (N.branch j).q) (leb (N.branch j).q N.driven) (leb (N.branch j).p N.driven)
        where
          g : ℕ
          g = conductance_of (N.branch j).law

          small : (b : Bool) → cond b g 0 ≤ conductance_limit
          small true = conductance_of_small (N.branch j).law (limits.laws j l)
          small false = omega arith

          go : (p q a b : Bool) → pick p q (cond a g 0) (cond b g 0) 0 ≤ conductance_limit
          go true q a b = small a
          go false true a b = small b
          go false false a b = omega arith

  module _ (x w : ℕ → ℤ) (kept : (j : ℕ) → j < N.count → Within stored_limit (x j)) (range : (j : ℕ) → j ≤ N.nodes → InRange (w j)) where
    -- the voltage of a branch
    abbrev across : ℕ → ℤ
    across j = w (N.branch j).p -ℤ w (N.branch j).q

    across_fits : (j : ℕ) → j < N.count → Within breakpoint_limit (across j)
    across_fits j l = difference_fits (w (N.branch j).p) (w (N.branch j).q) (range (N.branch j).p (limits.wired.p_there j l)) (range (N.branch j).q (limits.wired.q_there j l))

    pub current_fits : (j : ℕ) → j < N.count → nat_abs (current 1 (N.branch j).law (x j) (w (N.branch j).p -ℤ w (N.branch j).q)) ≤ current_bound
    current_fits j l = current_small (N.branch j).law (x j) (across j) (limits.laws j l) (across_fits j l) (kept j l)

    pub leaving_fits : (i j : ℕ) → j < N.count → nat_abs (leaving 1 (N.branch j) (x j) w i) ≤ current_bound
    unfolding leaving
    leaving_fits i j l = go (eqb i (N.branch j).p) (eqb i (N.branch j).q)
      where
        c : ℤ
        c = current 1 (N.branch j).law (x j) (w (N.branch j).p -ℤ w (N.branch j).q)

        go : (p q : Bool) → nat_abs (pick p q c (neg_ℤ c) (pos 0)) ≤ current_bound
        go true q = current_fits j l
        go false true = omega (arith, current_fits j l, abs_neg c)
        go false false = omega arith

    -- the leak's current and the sum over any n branches, which a loop adds up one by one
    pub partial_sum_small : (i n : ℕ) (element : ℕ → ℕ) → i ≤ N.nodes → ((t : ℕ) → t < n → element t < N.count) → nat_abs (pos N.leak *ℤ w i +ℤ sum (λ (t : ℕ). leaving 1 (N.branch (element t)) (x (element t)) w i) n) ≤ leak_limit * voltage_limit + n * current_bound
    partial_sum_small i n element there each =
        let f : ℕ → ℤ = λ t. leaving 1 (N.branch (element t)) (x (element t)) w i in
        let m : N.leak * nat_abs (w i) ≤ leak_limit * voltage_limit = mul-le-mul limits.leak_small (range i there) in
        omega (arith, abs_add (pos N.leak *ℤ w i) (sum f n), abs_mul (pos N.leak) (w i), sum_abs f current_bound n (λ t l. leaving_fits i (element t) (each t l)))
