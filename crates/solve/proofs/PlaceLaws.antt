-- One place of an array changed, and the free nodes' places one after the other. Assumes nothing.
use mathlib.Core.Path.{◌≡◌, refl, sym, ◌∙◌, subst}
use mathlib.Core.Bool.{Bool, true, false}
use mathlib.Core.List.{List}
use Prim.Native.Nat.{ℕ, ◌+◌, ◌≤◌, ◌<◌}
use native.Mathlib.Omega.{arith}
use lib.IntN.{ℤ, pos}
use lib.Dec.{eqb}
use lib.ListN.{length, set, length-set}
use lib.Seq.{get_or-set_same, get_or-set_other}
use borrow.Author.Tests.{eqb-true, eqb-false}
use mir.Syntax.{w64}
use mir.Val.{to_z, of_z}
use mir.Facts.{to_z-of_z}
use Rattle.units.proofs.Integers.{scale_one}
use Rattle.units.proofs.Sizes.{fits_signed}
use Rattle.network.specs.Network.{reading}
use Rattle.network.specs.Sample.{Legal}
use Rattle.circuit.specs.Board.{nodes_on, driven_on, network_on}
use Rattle.solve.specs.Answer.{drives_at}
use Rattle.solve.specs.Search.{Searching, Changed}

-- after a store at place i, what holds of it there and of the other places as they were holds of place j
pub set_cases : (P : ℕ → ℤ → Type 0) (l : List ℤ) (i j : ℕ) (v : ℤ) → i < length l → P i v → ((j ≡ i → ⊥) → P j (reading l j)) → P j (reading (set l i v) j)
set_cases P l i j v short here there = go (eqb j i) refl
  where
    go : (b : Bool) → eqb j i ≡ b → P j (reading (set l i v) j)
    go true e = subst (λ (k : ℕ). P k (reading (set l i v) k)) (sym (eqb-true j i e)) (subst (P i) (sym (get_or-set_same l i v (pos 0) short)) here)
    go false e = subst (P j) (sym (get_or-set_other l i j v (pos 0) (eqb-false j i e))) (there (eqb-false j i e))

module _ {P : ℕ → ℤ → Type 0} {board : List ℕ} {before : List ℤ} where
  module _ {after : List ℤ} {i : ℕ} (h : Changed P board before after i) where
    pub changed_more : {u : ℤ} {next : List ℤ} → driven_on board < i → i < 16 → P i u → next ≡ set after i u → Changed P board before next (i + 1)
    changed_more {u} above place here e =
        let short : i < length after = omega (arith, h.long) in
        subst (λ (l : List ℤ). Changed P board before l (i + 1)) (sym e) (record {
          long = length-set after i u ∙ h.long;
          same = λ j l. set_cases (λ (k : ℕ) (w : ℤ). k ≤ driven_on board → w ≡ reading before k) after i j u short (λ m. absurd (omega arith)) (λ n. h.same j) l;
          free = λ j a b. set_cases P after i j u short here (λ n. h.free j a (omega (arith, n)));
        })

-- ---- where a search stands

module _ {board : List ℕ} {stretches stored a nets : List ℤ} (s : Searching board stretches stored a nets) where
  -- a node has a place in the array
  pub place_of : {i : ℕ} → i ≤ nodes_on board → i < 16
  place_of there = omega (arith, s.evaluable.ready.laid.limits.few_nodes)

  -- the code's voltage of a node is the array's
  pub node_is : {i : ℕ} → i ≤ nodes_on board → to_z w64 (of_z w64 (reading a i)) ≡ reading a i
  node_is there = to_z-of_z (fits_signed _ (omega (arith, s.evaluable.ranged _ there)))

  pub short_of : {i : ℕ} → i ≤ nodes_on board → i < length a
  short_of there = omega (arith, place_of there, s.long)

  -- it has some drives
  pub searching_legal : Legal (network_on board stretches) (drives_at a) (reading a)
  searching_legal = record { drives = record { ground = s.ground; driven = λ j l. sym (scale_one (drives_at a j)) }; range = λ i f. s.evaluable.ranged i f.1 }
