-- What the least bound rests on. Assumes nothing.
use mathlib.Core.Path.{◌≡◌, ◌∙◌}
use mathlib.Core.List.{List}
use mathlib.Core.Logic.{⊎_elim}
use lib.IntN.{ℤ}
use Prim.Native.Nat.{ℕ, ◌+◌, ◌*◌, ◌/◌, ◌%◌, ◌≤◌, ◌<◌}
use native.Mathlib.Omega.{arith}
use native.Mathlib.Nat.{add-mul, mul_comm, mul-le-mul_right, div-add-mod}
use Rattle.units.specs.Integer.{rounded_up}
use Rattle.units.proofs.Integers.{decide_n}
use Rattle.units.proofs.Sizes.{rounded_up_law}
use Rattle.network.specs.Network.{held, steepest}
use Rattle.network.specs.Bound.{LeastEnough}
use Rattle.std.specs.Prelude.{Option, Some, None, SomeIff, ◌^◌}
use Rattle.circuit.specs.Board.{nodes_on, driven_on, network_on}
use Rattle.circuit.specs.Bound.{AtNode}

-- e / h rounded down, and what is left of e with s rounded up, is (s + e) / h rounded up
module _ (s h e : ℕ) (some : 0 < h) where
  abbrev b : ℕ
  b = e / h + rounded_up (e % h + s) h

  spread : b * h ≡ h * (e / h) + h * rounded_up (e % h + s) h
  spread = add-mul (e / h) (rounded_up (e % h + s) h) h ∙ both (e / h) (rounded_up (e % h + s) h)
    where
      both : (x y : ℕ) → x * h + y * h ≡ h * x + h * y
      both x y = rw (mul_comm x h, mul_comm y h)

  pub enough_here : s + e ≤ b * h
  enough_here = omega (arith, spread, rounded_up_law (e % h + s) h some, div-add-mod e h)

  pub least_here : (c : ℕ) → s + e ≤ c * h → b ≤ c
  least_here c l = ⊎_elim
      (λ (m : b ≤ c). m)
      (λ (m : c < b). absurd (omega (arith, spread, rounded_up_law (e % h + s) h some, div-add-mod e h, mul-le-mul_right h m, add-mul c 1 h))) (decide_n b c)

  -- .. which is the least at one node, or does not fit
  pub here : (r : Option ℕ) → SomeIff r (b < 2 ^ 64) b → AtNode s h e r
  here (Some x) (fits, is) = rw is (enough_here, least_here)
  here None big = λ c l. ⊎_elim
      (λ (m : 2 ^ 64 ≤ c). m)
      (λ (m : c < 2 ^ 64). absurd (big (omega (arith, least_here c l)))) (decide_n (2 ^ 64) c)

-- the least that is enough at every free node up to i
pub record UpTo (board : List ℕ) (stretches : List ℤ) (e i most : ℕ) : Type 0 where
  pub enough : (j : ℕ) → driven_on board < j → j ≤ i → steepest (network_on board stretches) j + e ≤ most * held (network_on board stretches) j
  pub least : (c : ℕ) → ((j : ℕ) → driven_on board < j → j ≤ i → steepest (network_on board stretches) j + e ≤ c * held (network_on board stretches) j) → most ≤ c

module _ (board : List ℕ) (stretches : List ℤ) (e : ℕ) where
  pub up_to_none : UpTo board stretches e (driven_on board) 0
  up_to_none = record { enough = λ j a b. absurd (omega arith); least = λ c h. omega arith }

  -- one node more, whose own least is n
  module _ (i most n most' : ℕ) (free : driven_on board < i + 1) (before : UpTo board stretches e i most) (enough : steepest (network_on board stretches) (i + 1) + e ≤ n * held (network_on board stretches) (i + 1)) (least : (c : ℕ) → steepest (network_on board stretches) (i + 1) + e ≤ c * held (network_on board stretches) (i + 1) → n ≤ c) where
    pub up_to_more : most ≤ most' → n ≤ most' → ((c : ℕ) → most ≤ c → n ≤ c → most' ≤ c) → UpTo board stretches e (i + 1) most'
    up_to_more a b lub = record {
      enough = λ j f l. ⊎_elim
          (λ (m : j ≤ i). omega (arith, before.enough j f m, mul-le-mul_right (held (network_on board stretches) j) a))
          (λ (m : i < j). let is : j ≡ i + 1 = omega arith in rw is (omega (arith, enough, mul-le-mul_right (held (network_on board stretches) (i + 1)) b))) (decide_n j i);
      least = λ c h. lub c (before.least c (λ j f l. h j f (omega arith))) (least c (h (i + 1) free (omega arith)));
    }

  pub up_to_all : (i most : ℕ) → i ≡ nodes_on board → UpTo board stretches e i most → LeastEnough (network_on board stretches) e most
  up_to_all i most is u = record {
    enough = λ j f. u.enough j f.0 (omega arith);
    least = λ c h. u.least c (λ j f l. h j (f, omega arith));
  }
