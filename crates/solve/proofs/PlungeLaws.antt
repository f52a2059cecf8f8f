-- A plunge: what the net current at its far end proves. Assumes nothing.
use mathlib.Core.Path.{◌≡◌, refl}
use mathlib.Core.List.{List}
use mathlib.Core.Logic.{◌⊎◌, inl, inr, ⊎_elim}
use Prim.Native.Nat.{ℕ, ◌≤◌, ◌<◌}
use native.Mathlib.Omega.{arith}
use lib.IntN.{ℤ, pos, ◌-ℤ◌}
use lib.ListN.{length, set}
use lib.Signed.{◌≤ℤ◌, ◌<ℤ◌}
use Rattle.units.proofs.Integers.{signs, sub_law, pos_law}
use Rattle.network.specs.Network.{Network, Fixed, Free, reading, net}
use Rattle.network.specs.Sample.{Drives}
use Rattle.network.specs.Search.{Sank, still, lowered}
use Rattle.network.proofs.Hold.{keep_drives}
use Rattle.network.proofs.Lowering.{lowered_law}
use Rattle.network.proofs.Descend.{descend, sank_under, sunk_one}
use Rattle.circuit.specs.Board.{driven_on, network_on}
use Rattle.solve.specs.Search.{Searching, Down}
use Rattle.solve.proofs.PlaceLaws.{set_cases}

-- node i stands at u, no higher than it was, with a net current above zero: whatever is low stands lower
module _ {board : List ℕ} {stretches stored nets : List ℤ} (l : List ℤ) (i : ℕ) (u : ℤ) (there : Searching board stretches stored (set l i u) nets) (short : i < length l) (free : Free (network_on board stretches) i) (down : u ≤ℤ reading l i) (high : pos 0 <ℤ net 1 (network_on board stretches) (reading stored) (reading (set l i u)) i) where
  abbrev N : Network
  N = network_on board stretches

  abbrev s : ℕ → ℤ
  s = reading (set l i u)

  same : (j : ℕ) → Fixed (network_on board stretches) j → reading (set l i u) j ≡ reading l j
  same j f = set_cases (λ (k : ℕ) (w : ℤ). k ≤ driven_on board → w ≡ reading l k) l i j u short (λ h. absurd (omega (arith, free.0))) (λ n h. refl) (omega (arith, f))

  below : (j : ℕ) → reading (set l i u) j ≤ℤ reading l j
  below j = set_cases (λ (k : ℕ) (w : ℤ). w ≤ℤ reading l k) l i j u short down (λ n. omega signs)

  sank : Sank (network_on board stretches) (reading stored) (reading (set l i u)) (lowered (reading (set l i u)) i 1)
  sank = sunk_one i (still (λ j l. refl)) free high

  falls : (j : ℕ) → j ≤ N.nodes → (reading l j ≤ℤ reading (set l i u) j) ⊎ (lowered (reading (set l i u)) i 1 j <ℤ reading (set l i u) j)
  falls j here = ⊎_elim
      (λ (e : (j ≡ i) × (lowered s i 1 j ≡ s j -ℤ pos 1)). inr (omega (signs, e.1, sub_law (s j) (pos 1), pos_law 1)))
      (λ (e : (j ≡ i → ⊥) × (lowered s i 1 j ≡ s j)). inl (set_cases (λ (k : ℕ) (w : ℤ). (k ≡ i → ⊥) → reading l k ≤ℤ w) l i j u short (λ n. absurd (n refl)) (λ n m. omega signs) e.0))
      (lowered_law s i 1 j)

  pub plunge_down : Down board stretches stored l (set l i u)
  plunge_down = record {
    under = λ j here. below j;
    settling = λ d z h.
        let drives : Drives 1 N d s = keep_drives (reading l) s h.legal.drives same in
        record {
          legal = record { drives = drives; range = λ k f. there.evaluable.ranged k f.1 };
          under = λ j here. omega (signs, below j, h.under j here);
          covers = λ w legal low under j here.
              omega (signs, sank_under sank j here, descend N (reading stored) d (reading l) s (lowered s i 1) w there.evaluable.ready.laid.limits.wired drives sank falls legal low (h.covers w legal low under) j here);
        };
  }
