-- What the advance of stored currents rests on. Assumes nothing.
use mathlib.Core.Path.{◌≡◌, refl, ◌∙◌}
use mathlib.Core.List.{List}
use mathlib.Core.Logic.{⊎_elim}
use Prim.Native.Nat.{ℕ, ◌+◌, ◌*◌, ◌^◌, ◌≤◌, ◌<◌}
use native.Mathlib.Omega.{arith}
use lib.IntN.{ℤ, pos, nat_abs, ◌*ℤ◌, ◌-ℤ◌}
use lib.ListN.{length, set, length-set}
use lib.Seq.{get_or-set_same, get_or-set_other}
use borrow.Author.Tests.{ne_eqb}
use Rattle.units.proofs.Integers.{decide_n}
use Rattle.units.proofs.Sizes.{abs_mul}
use Rattle.network.specs.Network.{advance, next, reading, conductance_limit}
use Rattle.network.proofs.Ranges.{conductance_of_small, product_fits}
use Rattle.network.specs.Kind.{capacitor_kind, inductor_kind}
use Rattle.circuit.specs.Board.{count_on, kind_on, branch_on, network_on, across_on, plain_conductance, Laid, Ranged}
use Rattle.circuit.specs.Advance.{Twice, next_on, StoredTo}
use Rattle.circuit.proofs.BoardLaws.{conductance_is, across_fits}

-- element j's new stored current is the network's
pub next_is : (board : List ℕ) (stretches volts stored : List ℤ) (j : ℕ) (x : ℤ) → x ≡ reading stored j → next_on board stretches volts j x ≡ next (network_on board stretches) (reading stored) (reading volts) j
unfolding next branch_on
next_is board stretches volts stored j x e = rw e

-- ---- by its kind, from twice what its conductance carries

module _ (board : List ℕ) (stretches volts : List ℤ) (j : ℕ) (x : ℤ) where
  pub next_capacitor : kind_on board j ≡ capacitor_kind → (r : ℤ) → Twice board volts j r → r -ℤ x ≡ next_on board stretches volts j x
  unfolding branch_on advance
  next_capacitor e r t = rw (t.value, conductance_is board stretches j, e)

  pub next_inductor : kind_on board j ≡ inductor_kind → (r : ℤ) → Twice board volts j r → x -ℤ r ≡ next_on board stretches volts j x
  unfolding branch_on advance
  next_inductor e r t = rw (t.value, conductance_is board stretches j, e)

  pub next_nothing : (kind_on board j ≡ capacitor_kind → ⊥) → (kind_on board j ≡ inductor_kind → ⊥) → pos 0 ≡ next_on board stretches volts j x
  unfolding branch_on advance
  next_nothing c i = rw (ne_eqb (kind_on board j) capacitor_kind c, ne_eqb (kind_on board j) inductor_kind i)

-- ---- sizes

module _ (board : List ℕ) (stretches volts : List ℤ) (laid : Laid board stretches) (ranged : Ranged board volts) (j : ℕ) (there : j < count_on board) where
  pub conductance_small : plain_conductance board j ≤ conductance_limit
  conductance_small = rw (conductance_is board stretches j) (conductance_of_small (branch_on board stretches j).law (laid.limits.laws j there))

  pub twice_fits : nat_abs (pos (2 * plain_conductance board j) *ℤ across_on board volts j) ≤ 2 ^ 57
  twice_fits =
      let g = plain_conductance board j in
      let v = across_on board volts j in
      omega (arith, abs_mul (pos (2 * g)) v, abs_mul (pos g) v, product_fits g v conductance_small (across_fits board stretches laid j there volts ranged))

-- ---- one after the other

module _ (board : List ℕ) (stretches volts before : List ℤ) where
  pub stored_none : StoredTo board stretches volts before 0 before
  stored_none = record { long = refl; new = λ j h. absurd (omega arith); old = λ j h. refl }

  pub stored_more : (n : ℕ) (after : List ℤ) (y : ℤ) → n < length before → y ≡ next (network_on board stretches) (reading before) (reading volts) n → StoredTo board stretches volts before n after → StoredTo board stretches volts before (n + 1) (set after n y)
  stored_more n after y there is t = record { long = simp length-set t.long; new = new; old = old }
    where
      new : (j : ℕ) → j < n + 1 → reading (set after n y) j ≡ next (network_on board stretches) (reading before) (reading volts) j
      new j h = ⊎_elim
          (λ (l : n ≤ j). let e : j ≡ n = omega arith in rw e (get_or-set_same after n y (pos 0) (omega (arith, t.long)) ∙ is))
          (λ (l : j < n). get_or-set_other after n j y (pos 0) (λ e. omega arith) ∙ t.new j l) (decide_n n j)

      old : (j : ℕ) → n + 1 ≤ j → reading (set after n y) j ≡ reading before j
      old j h = get_or-set_other after n j y (pos 0) (λ e. omega arith) ∙ t.old j (omega arith)
