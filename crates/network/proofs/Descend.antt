-- Descend: what sinks does not pass a low assignment. Step and Leap are two ways to use it. Assumes nothing.
use mathlib.Core.Path.{◌≡◌, sym, subst}
use mathlib.Core.Logic.{◌⊎◌, ⊎_elim}
use mathlib.Core.List.{List}
use Prim.Native.Nat.{ℕ, suc, ◌+◌, ◌*◌, ◌-◌, ◌≤◌, ◌<◌}
use native.Mathlib.Omega.{arith}
use lib.ListN.{length, set}
use lib.IntN.{ℤ, pos, ◌-ℤ◌}
use lib.Signed.{◌≤ℤ◌, ◌<ℤ◌}
use Rattle.units.specs.Integer.{up, dn}
use Rattle.units.proofs.Integers.{signs, sub_law, pos_law, eq_out, Reach, decide_n}
use Rattle.network.specs.Network.{Network, Free, reading, net, steepest, Wired}
use Rattle.network.specs.Sample.{Drives, Legal, Low, Under}
use Rattle.network.specs.Search.{lowered, Sank, still, sunk}
use Rattle.network.proofs.Compare.{AtMost, compare, steep}
use Rattle.network.proofs.Hold.{squeeze, same_fixed, keep_drives}
use Rattle.network.proofs.Lowering.{lowered_law, lowered_here, lowered_away, lowered_under, lowered_none, store_lowers}

-- a low w that is at most M above S stays so when S is lowered at i, to one below a place where the net current is above zero
sink : (N : Network) (x w S : ℕ → ℤ) (M i r : ℕ) → Wired N → Low N x w → Free N i → pos 0 <ℤ net 1 N x (lowered S i r) i → AtMost N M w S → AtMost N M w (lowered S i (suc r))
sink N x w S M i r wired low free high h = record { every = every; fixed = λ j f. omega (signs, h.fixed j f, lowered_away S i (suc r) j (omega arith)) }
  where
    L : ℕ → ℤ
    L = lowered S i r

    -- how far w is above L at i, were it M or more
    t : ℕ
    t = (up (w i) + dn (L i)) - (up (L i) + dn (w i))

    within : M ≤ t → AtMost N t w L
    within l = record {
      every = λ j there. ⊎_elim
          (λ (e : (j ≡ i) × (L j ≡ S j -ℤ pos r)). rw e.0 (omega arith))
          (λ (e : (j ≡ i → ⊥) × (L j ≡ S j)). omega (signs, h.every j there)) (lowered_law S i r j);
      fixed = λ j f. omega (signs, h.fixed j f, lowered_away S i r j (omega arith));
    }

    below : up (w i) + dn (L i) < up (L i) + dn (w i) + M
    below = ⊎_elim
        (λ (a : up (L i) + dn (w i) + M ≤ up (w i) + dn (L i)). absurd (omega (signs, pos_law 0, compare 1 N x w L i t wired (within (omega arith)) (omega arith), low i free)))
        (λ (a : up (w i) + dn (L i) < up (L i) + dn (w i) + M). a) (decide_n _ _)

    every : (j : ℕ) → j ≤ N.nodes → Reach (lowered S i (suc r) j) M (w j)
    every j there = ⊎_elim
        (λ (e : (j ≡ i) × (lowered S i (suc r) j ≡ S j -ℤ pos (suc r))). rw e.0 (omega (signs, below, lowered_here S i r, lowered_here S i (suc r), sub_law (S i) (pos r), sub_law (S i) (pos (suc r)), pos_law r, pos_law (suc r))))
        (λ (e : (j ≡ i → ⊥) × (lowered S i (suc r) j ≡ S j)). omega (signs, h.every j there)) (lowered_law S i (suc r) j)

sinks : (N : Network) (x w s e : ℕ → ℤ) (M : ℕ) → Wired N → Low N x w → Sank N x s e → AtMost N M w s → AtMost N M w e
sinks N x w s e M wired low (still same) h = record {
  every = λ j l. omega (signs, same j l, h.every j l);
  fixed = λ j f. omega (signs, same j (omega (arith, wired.driven_there)), h.fixed j f);
}
sinks N x w s e M wired low (sunk {e = f} i r before free high) h = sink N x w f M i r wired low free high (sinks N x w s f M wired low before h)

-- Descend: s is anywhere with w's drives, e sank from it, and at every node v ≤ s or e < s. If w, legal and low, is under v, it is under e
pub descend : (N : Network) (x d v s e w : ℕ → ℤ) → Wired N → Drives 1 N d s → Sank N x s e → ((j : ℕ) → j ≤ N.nodes → (v j ≤ℤ s j) ⊎ (e j <ℤ s j)) → Legal N d w → Low N x w → Under N w v → Under N w e
descend N x d v s e w wired drives sank falls legal low under j there =
    omega (signs, (sinks N x w s e 0 wired low sank (within 0 (squeeze w s N.nodes 0 down))).every j there)
  where
    within : (m : ℕ) → ((j : ℕ) → j ≤ N.nodes → Reach (s j) m (w j)) → AtMost N m w s
    within m h = record { every = h; fixed = λ j f. omega (arith, eq_out (same_fixed w s legal.drives drives j f)) }

    down : (m : ℕ) → 0 ≤ m → ((j : ℕ) → j ≤ N.nodes → Reach (s j) (suc m) (w j)) → (j : ℕ) → j ≤ N.nodes → Reach (s j) m (w j)
    down m l h j there = ⊎_elim
        (λ (a : v j ≤ℤ s j). omega (signs, under j there))
        (λ (a : e j <ℤ s j). omega (signs, (sinks N x w s e (suc m) wired low sank (within (suc m) h)).every j there))
        (falls j there)

-- ---- what sank lies under, and has the same drives

pub sank_under : {N : Network} {x s e : ℕ → ℤ} → Sank N x s e → Under N e s
sank_under (still same) j l = omega (signs, same j l)
sank_under (sunk {e = f} i r before free high) j l = omega (signs, sank_under before j l, lowered_under f i (suc r) j)

pub lowered_drives : (N : Network) (d w : ℕ → ℤ) (i t : ℕ) → Free N i → Drives 1 N d w → Drives 1 N d (lowered w i t)
lowered_drives N d w i t free h = keep_drives w (lowered w i t) h (λ j f. lowered_away w i t j (omega arith))

pub sank_drives : {N : Network} {x s e : ℕ → ℤ} (d : ℕ → ℤ) → Wired N → Sank N x s e → Drives 1 N d s → Drives 1 N d e
sank_drives {s = s} {e = e} d wired (still same) h = keep_drives s e h (λ j f. same j (omega (arith, wired.driven_there)))
sank_drives {N} d wired (sunk {e = f} i r before free high) h = lowered_drives N d f i (suc r) free (sank_drives d wired before h)

-- ---- how far one node may be lowered

-- by any r that the steepest sum allows the net current stays above zero
pub allowed : (N : Network) (x v : ℕ → ℤ) (i r : ℕ) → Wired N → pos (steepest N i * r) <ℤ net 1 N x v i → pos 0 <ℤ net 1 N x (lowered v i r) i
allowed N x v i r wired high =
    omega (signs, pos_law 0, pos_law (steepest N i * r), steep 1 N x v (lowered v i r) i r wired (λ j l. lowered_under v i r j) (omega (signs, lowered_here v i r, sub_law (v i) (pos r), pos_law r)))

-- ---- one visit of a sweep: the net current of a node above zero as it stands, and a lowering by one

pub sunk_one : {N : Network} {x s e : ℕ → ℤ} (i : ℕ) → Sank N x s e → Free N i → pos 0 <ℤ net 1 N x e i → Sank N x s (lowered e i 1)
sunk_one {N} {x} {e = e} i sank free high = sunk i 0 sank free (subst (λ (u : ℕ → ℤ). pos 0 <ℤ net 1 N x u i) (sym (lowered_none e i)) high)

pub sunk_list : (N : Network) (x s : ℕ → ℤ) (l : List ℤ) (i : ℕ) → i < length l → Free N i → pos 0 <ℤ net 1 N x (reading l) i → Sank N x s (reading l) → Sank N x s (reading (set l i (reading l i -ℤ pos 1)))
sunk_list N x s l i short free high h = subst (λ (e : ℕ → ℤ). Sank N x s e) (sym (store_lowers l i 1 short)) (sunk_one i h free high)
