-- The pointwise maximum of two low assignments is low; and what request 10 rests on: with each drive at least what it was, and the same stored currents,
-- no node of the answer is lower, and where there was an answer there are low voltages in range again. Assumes nothing.
use mathlib.Core.Path.{◌≡◌, refl}
use mathlib.Core.Bool.{cond}
use mathlib.Core.Logic.{⊎_elim}
use Prim.Native.Nat.{ℕ, zero, suc, ◌<◌}
use native.Mathlib.Omega.{arith}
use lib.Dec.{leb}
use borrow.Author.Tests.{le-leb, lt-leb}
use lib.IntN.{ℤ, pos, ◌*ℤ◌}
use lib.Signed.{◌≤ℤ◌, ◌<ℤ◌}
use Rattle.units.specs.Integer.{higher}
use Rattle.units.specs.Voltage.{InRange}
use Rattle.units.proofs.Integers.{signs, le_out, decide, parts, higher_law, ordered, crossed, scale_one}
use Rattle.network.specs.Network.{Network, Fixed, Free, Wired}
use Rattle.network.specs.Sample.{Drives, Legal, Low, Under, Answer}
use Rattle.network.proofs.Nodes.{by_node}
use Rattle.network.proofs.Compare.{others_rise}
use Rattle.network.proofs.Hold.{keep_drives}

pub maximum_low : (N : Network) (x v u : ℕ → ℤ) → Wired N → Low N x v → Low N x u → Low N x (λ j. higher (v j) (u j))
maximum_low N x v u wired low-v low-u i f =
    let m : ℕ → ℤ = λ j. higher (v j) (u j) in
    ⊎_elim
    (λ (h : v i ≤ℤ u i). omega (signs, low-u i f, others_rise 1 N x u m i wired (λ j l. omega (signs, higher_law (v j) (u j))) (omega (signs, (ordered (v i) (u i) h).1))))
    (λ (h : u i <ℤ v i). omega (signs, low-v i f, others_rise 1 N x v m i wired (λ j l. omega (signs, higher_law (v j) (u j))) (omega (signs, (crossed (v i) (u i) (omega signs)).1))))
    (decide (v i) (u i))

-- it is legal where the one has the drives, the other isn't above it at fixed nodes, and both are in range
pub maximum_legal : (N : Network) (d v u : ℕ → ℤ) → Legal N d u → ((j : ℕ) → Fixed N j → v j ≤ℤ u j) → ((i : ℕ) → Free N i → InRange (v i)) → Legal N d (λ j. higher (v j) (u j))
maximum_legal N d v u legal under range = record {
  drives = keep_drives u (λ j. higher (v j) (u j)) legal.drives (λ j f. (ordered (v j) (u j) (under j f)).1);
  range = λ i f. ⊎_elim
      (λ (h : v i ≤ℤ u i). rw (ordered (v i) (u i) h).1 (legal.range i f))
      (λ (h : u i <ℤ v i). rw (crossed (v i) (u i) (omega signs)).1 (range i f)) (decide (v i) (u i));
}

module _ (N : Network) (x d₁ d₂ v₁ : ℕ → ℤ) (wired : Wired N) (louder : (j : ℕ) → j < N.driven → d₁ j ≤ℤ d₂ j) (a₁ : Answer N x d₁ v₁) where
  drives_rise : (u : ℕ → ℤ) → Drives 1 N d₂ u → (j : ℕ) → Fixed N j → v₁ j ≤ℤ u j
  drives_rise u h zero f = omega (signs, h.ground, a₁.legal.drives.ground)
  drives_rise u h (suc j) f = omega (signs, h.driven j f, a₁.legal.drives.driven j f, scale_one (d₁ j), scale_one (d₂ j), louder j f)

  -- the maximum of the two answers is legal for the second drives, and low, so it isn't above their answer
  pub not_quieter : (v₂ : ℕ → ℤ) → Answer N x d₂ v₂ → Under N v₁ v₂
  not_quieter v₂ a₂ j there =
      let legal = maximum_legal N d₂ v₁ v₂ a₂.legal (drives_rise v₂ a₂.legal.drives) a₁.legal.range in
      let low = maximum_low N x v₁ v₂ wired a₁.low a₂.low in
      let h = parts _ _ (le_out (a₂.highest (λ j. higher (v₁ j) (v₂ j)) legal low j there)) in
      omega (signs, higher_law (v₁ j) (v₂ j))

  -- the second drives, and the first answer at the free nodes
  moved : ℕ → ℤ
  moved zero = pos 0
  moved (suc j) = cond (leb (suc j) N.driven) (pos 1 *ℤ d₂ j) (v₁ (suc j))

  moved_free : (i : ℕ) → Free N i → moved i ≡ v₁ i
  unfolding moved
  moved_free zero f = absurd (omega arith)
  moved_free (suc i) f = rw (lt-leb (suc i) N.driven f.0)

  moved_drives : Drives 1 N d₂ moved
  unfolding moved
  moved_drives = record { ground = refl; driven = λ j l. rw (le-leb (suc j) N.driven l) }

  -- which are legal and low
  pub still_low : (w : ℕ → ℤ) × Legal N d₂ w × Low N x w
  still_low = (
    moved,
    record { drives = moved_drives; range = λ i f. rw (moved_free i f) (a₁.legal.range i f) },
    λ i f. omega (
      signs,
      a₁.low i f,
      others_rise 1 N x v₁ moved i wired (by_node N (λ (j : ℕ). v₁ j ≤ℤ moved j) (drives_rise moved moved_drives) (λ j g. omega (signs, moved_free j g))) (omega (signs, moved_free i f)),
    ),
  )
