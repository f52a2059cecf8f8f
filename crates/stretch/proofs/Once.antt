-- The promise of a curve's rows, which is no equation, admits one outcome. Assumes nothing.
use mathlib.Core.Path.{◌≡◌, sym, ◌∙◌}
use mathlib.Core.List.{List}
use mathlib.Core.Logic.{inl, inr, ⊎_elim}
use Prim.Native.Nat.{ℕ, ◌+◌, ◌*◌, ◌-◌, ◌/◌, ◌%◌, ◌≤◌, ◌<◌}
use native.Mathlib.Omega.{arith}
use lib.IntN.{ℤ, pos}
use lib.Seq.{ext_get_or}
use Rattle.units.proofs.Integers.{decide_n}
use Rattle.network.specs.Network.{reading}
use Rattle.stretch.specs.Stretch.{Filled}

pub filled_once : (slopes : List ℕ) (breakpoints before : List ℤ) (first n : ℕ) (a b : List ℤ) → Filled slopes breakpoints before first n a → Filled slopes breakpoints before first n b → a ≡ b
filled_once slopes breakpoints before first n a b p q = ext_get_or (pos 0) a b (p.long ∙ sym q.long) (λ t h. ⊎_elim
    (λ (l : 3 * first ≤ t). ⊎_elim
    (λ (m : 3 * (first + n) ≤ t). p.elsewhere t (inr m) ∙ sym (q.elsewhere t (inr m)))
    (λ (m : t < 3 * (first + n)). inside t l m) (decide_n (3 * (first + n)) t))
    (λ (l : t < 3 * first). p.elsewhere t (inl l) ∙ sym (q.elsewhere t (inl l))) (decide_n (3 * first) t))
  where
    inside : (t : ℕ) → 3 * first ≤ t → t < 3 * (first + n) → reading a t ≡ reading b t
    inside t l m =
        let i = (t - 3 * first) / 3 in
        let k = (t - 3 * first) % 3 in
        let e : 3 * (first + i) + k ≡ t = omega arith in
        rw (← e) (p.row i k (omega arith) (omega arith) ∙ sym (q.row i k (omega arith) (omega arith)))
