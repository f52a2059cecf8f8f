-- From an opened image to what a first sample is given. Assumes nothing.
use mathlib.Core.Path.{◌≡◌, refl}
use mathlib.Core.Bool.{true}
use mathlib.Core.List.{List}
use mathlib.Core.Logic.{⊎_elim}
use Prim.Native.Nat.{ℕ, zero, suc, ◌≤◌, ◌<◌}
use native.Mathlib.Omega.{arith}
use lib.IntN.{ℤ, pos}
use lib.ListN.{length, get_or, set, replicate, length-set}
use lib.Seq.{get_or-set_same, get_or-set_other}
use Rattle.image.specs.Conductance.{conductances_fit}
use Rattle.image.specs.Setting.{plain}
use Rattle.image.specs.Sound.{Sound}
use Rattle.image.specs.declared.parts.Parts.{Parts}
use Rattle.image.proofs.Sound.{in_limits}
use Rattle.opening.specs.Opening.{board_of, stretches_of}
use Rattle.opening.proofs.BoardIs.{ready}
use Rattle.units.specs.Voltage.{Within}
use Rattle.units.proofs.Integers.{decide_n}
use Rattle.network.specs.Network.{reading, stored_limit}
use Rattle.solve.specs.Sample.{Playable}

zeros : (n j : ℕ) → get_or (replicate n (pos 0)) j (pos 0) ≡ pos 0
zeros zero j = refl
zeros (suc n) zero = refl
zeros (suc n) (suc j) = zeros n j

-- stored currents of which none is beyond its limit: zeros, and zeros with one of them changed
abbrev pub Charged : List ℤ → Type 0
Charged stored = (length stored ≡ 32) × ((j : ℕ) → Within stored_limit (reading stored j))

pub uncharged : Charged (replicate 32 (pos 0))
uncharged = (refl, λ j. rw (zeros 32 j) (omega arith))

pub charged : (at : ℕ) (x : ℤ) → at < 32 → Within stored_limit x → Charged (set (replicate 32 (pos 0)) at x)
charged at x h k = (
  simp length-set uncharged.0,
  λ j. ⊎_elim
      (λ (a : at ≤ j). ⊎_elim
      (λ (b : j ≤ at). let e : j ≡ at = omega arith in rw e (rw (get_or-set_same (replicate 32 (pos 0)) at x (pos 0) (omega arith)) k))
      (λ (b : at < j). rw (get_or-set_other (replicate 32 (pos 0)) at j x (pos 0) (λ i. omega arith)) (uncharged.1 j)) (decide_n j at))
      (λ (a : j < at). rw (get_or-set_other (replicate 32 (pos 0)) at j x (pos 0) (λ i. omega arith)) (uncharged.1 j)) (decide_n at j),
)

pub first_playable : (parts : Parts) (board : List ℕ) (stretches stored : List ℤ) → Sound parts → conductances_fit parts plain ≡ true → board ≡ board_of parts plain → stretches ≡ stretches_of parts → Charged stored → Playable board stretches stored
first_playable parts board stretches stored sound fits b s charge = record {
  ready = rw (b, s) (ready parts plain sound (in_limits parts plain sound fits));
  kept = λ j l. charge.1 j;
  long = charge.0;
}
