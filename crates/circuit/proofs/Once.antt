-- The promises that are no equations, each of which admits one outcome: the advance's, the least bound's and that of places taken over. Assumes nothing.
use mathlib.Core.Path.{◌≡◌, refl, sym, ◌∙◌, ap}
use mathlib.Core.Bool.{true, false}
use mathlib.Core.List.{List}
use mathlib.Core.Logic.{inl, inr, ⊎_elim}
use Prim.Native.Nat.{ℕ, ◌^◌, ◌≤◌, ◌<◌}
use native.Mathlib.Omega.{arith}
use lib.IntN.{ℤ, pos}
use lib.Seq.{ext_get_or}
use Rattle.units.proofs.Integers.{decide_n}
use Rattle.network.specs.Bound.{Enough}
use Rattle.circuit.specs.Board.{nodes_on, driven_on, count_on, network_on}
use Rattle.circuit.specs.Advance.{AllKept, StoredTo, Advancing}
use Rattle.circuit.specs.Bound.{Bounding}
use Rattle.circuit.specs.Places.{Taken}
use Rattle.circuit.specs.declared.advance.Beyond.{Beyond}
use Rattle.std.specs.Prelude.{Result, Ok, Err, Option, Some, None}

-- ---- the advance

module _ (board : List ℕ) (stretches volts before : List ℤ) where
  not_both : AllKept board stretches volts before true → AllKept board stretches volts before false → ⊥
  not_both all one = omega (arith, all one.0 one.1, one.2)

  stored_once : (a b : List ℤ) → StoredTo board stretches volts before (count_on board) a → StoredTo board stretches volts before (count_on board) b → a ≡ b
  stored_once a b p q = ext_get_or (pos 0) a b (p.long ∙ sym q.long) (λ j h. ⊎_elim
      (λ (l : count_on board ≤ j). p.old j l ∙ sym (q.old j l))
      (λ (l : j < count_on board). p.new j l ∙ sym (q.new j l)) (decide_n (count_on board) j))

  pub advance_once : (r s : Result Unit Beyond) (a b : List ℤ) → Advancing board stretches volts before r a → Advancing board stretches volts before s b → (r ≡ s) × (a ≡ b)
  advance_once (Ok _) (Ok _) a b p q = (refl, stored_once a b p.1 q.1)
  advance_once (Ok _) (Err _) a b p q = absurd (not_both p.0 q.0)
  advance_once (Err _) (Ok _) a b p q = absurd (not_both q.0 p.0)
  advance_once (Err _) (Err _) a b p q = (refl, p.1 ∙ sym q.1)

-- ---- the least bound, which as a u64 fits

abbrev pub Fitting : Option ℕ → Type 0
Fitting (Some b) = b < 2 ^ 64
Fitting None = 0 < 2 ^ 64

module _ (board : List ℕ) (stretches : List ℤ) (e : ℕ) where
  none_else : (b : ℕ) → b < 2 ^ 64 → Bounding board stretches e (Some b) → Bounding board stretches e None → ⊥
  none_else b fits p n = ⊎_elim
      (λ (d : driven_on board ≡ nodes_on board). omega (arith, d, p.0))
      (λ (none : (c : ℕ) → Enough (network_on board stretches) e c → 2 ^ 64 ≤ c). omega (arith, none b p.1.enough, fits)) n

  pub least_once : (r s : Option ℕ) → Fitting r → Fitting s → Bounding board stretches e r → Bounding board stretches e s → r ≡ s
  least_once (Some b) (Some c) f g p q =
      let same : b ≡ c = omega (arith, p.1.least c q.1.enough, q.1.least b p.1.enough) in
      ap Some same
  least_once (Some b) None f g p q = absurd (none_else b f p q)
  least_once None (Some c) f g p q = absurd (none_else c g q p)
  least_once None None f g p q = refl

-- ---- places taken over

pub taken_once : (from : List ℤ) (first end : ℕ) (before a b : List ℤ) → Taken from first end before a → Taken from first end before b → a ≡ b
taken_once from first end before a b p q = ext_get_or (pos 0) a b (p.long ∙ sym q.long) (λ i h. ⊎_elim
    (λ (l : first ≤ i). ⊎_elim
    (λ (m : end ≤ i). p.elsewhere i (inr m) ∙ sym (q.elsewhere i (inr m)))
    (λ (m : i < end). p.taken i l m ∙ sym (q.taken i l m)) (decide_n end i))
    (λ (l : i < first). p.elsewhere i (inl l) ∙ sym (q.elsewhere i (inl l))) (decide_n first i))
