-- A sweep: what the steps at the nodes so far say together. Assumes nothing.
use mathlib.Core.Path.{◌≡◌, sym, ◌∙◌, subst}
use mathlib.Core.Bool.{Bool, true, false, false≢true, ◌||◌}
use mathlib.Core.List.{List}
use Prim.Native.Nat.{ℕ, ◌+◌, ◌<◌}
use native.Mathlib.Omega.{arith}
use lib.IntN.{ℤ}
use borrow.Author.Count.{below_more}
use Rattle.units.proofs.Integers.{signs}
use Rattle.network.specs.Network.{Free, reading}
use Rattle.network.specs.Sample.{Low}
use Rattle.network.specs.Search.{height}
use Rattle.network.proofs.Measures.{height_under}
use Rattle.circuit.specs.Board.{nodes_on, network_on}
use Rattle.std.proofs.Common.{Result, Ok, Err}
use Rattle.std.proofs.Math.Bool.{or-true, or-false}
use Rattle.std.specs.Result.{IsErr}
use Rattle.solve.specs.declared.settle.NoneInRange.{NoneInRange}
use Rattle.solve.specs.Search.{Searching, LowAt, Down, Lowered, Nowhere, Fell, Came}

-- ---- going down, one after the other

module _ {board : List ℕ} {stretches stored a : List ℤ} where
  pub down_none : Down board stretches stored a a
  down_none = record { under = λ j l. omega signs; settling = λ d z h. h }

  module _ {b c : List ℤ} where
    pub down_more : Down board stretches stored a b → Down board stretches stored b c → Down board stretches stored a c
    down_more p q = record { under = λ j l. omega (signs, p.under j l, q.under j l); settling = λ d z h. q.settling d z (p.settling d z h) }

    pub lowered_more : Down board stretches stored a b → Lowered board stretches stored b c → Lowered board stretches stored a c
    lowered_more p q = record { down = down_more p q.down; falls = omega (arith, q.falls, height_under (network_on board stretches) (reading b) (reading a) p.under) }

    pub lowered_down : Lowered board stretches stored a b → Down board stretches stored b c → Lowered board stretches stored a c
    lowered_down p q = record { down = down_more p.down q; falls = omega (arith, p.falls, height_under (network_on board stretches) (reading c) (reading b) q.under) }

-- ---- a sweep that has come to node i

-- `moved` is false as long as every node stood still
pub record Swept (board : List ℕ) (stretches stored before after nets : List ℤ) (moved : Bool) (i : ℕ) : Type 0 where
  pub searching : Searching board stretches stored after nets
  pub down : Down board stretches stored before after
  pub still : moved ≡ false → (after ≡ before) × ((j : ℕ) → j < i → Free (network_on board stretches) j → LowAt board stretches stored before j)
  pub falls : moved ≡ true → height (network_on board stretches) (reading after) < height (network_on board stretches) (reading before)

module _ {board : List ℕ} {stretches stored before : List ℤ} where
  module _ {after nets : List ℤ} {moved : Bool} {i : ℕ} (s : Swept board stretches stored before after nets moved i) where
    module _ {next then : List ℤ} (searching : Searching board stretches stored next then) where
      pub swept_still : (next ≡ after) × LowAt board stretches stored after i → Swept board stretches stored before next then moved (i + 1)
      swept_still h = record {
        searching = searching;
        down = rw h.0 s.down;
        still = λ e. let k = s.still e in (
          h.0 ∙ k.0,
          below_more (λ (j : ℕ). Free (network_on board stretches) j → LowAt board stretches stored before j) i k.1 (λ f. subst (λ (l : List ℤ). LowAt board stretches stored l i) k.0 h.1),
        );
        falls = rw h.0 s.falls;
      }

      pub swept_lower : Lowered board stretches stored after next → Swept board stretches stored before next then true (i + 1)
      swept_lower h =
          let l = lowered_more s.down h in
          record { searching = searching; down = l.down; still = λ e. absurd (false≢true (sym e)); falls = λ e. l.falls }

      -- .. whichever of the two it was
      pub swept_more : (fell : Bool) → Fell (LowAt board stretches stored after i) board stretches stored after next (Ok fell) → Swept board stretches stored before next then (moved || fell) (i + 1)
      swept_more false h = rw or-false (swept_still h)
      swept_more true h = rw or-true (swept_lower h)

    pub all_still : nodes_on board < i → moved ≡ false → (after ≡ before) × Low (network_on board stretches) (reading stored) (reading before)
    all_still past e = let k = s.still e in (k.0, λ j free. k.1 j (omega (arith, free.1)) free)

-- ---- how it ends

module _ (board : List ℕ) (stretches stored before after : List ℤ) where
  -- nothing is in range
  pub fell_out : (still : Type 0) (r : Result Bool NoneInRange) → IsErr r → Nowhere board stretches stored before → Fell still board stretches stored before after r
  fell_out still (Ok _) e none = absurd (false≢true e)
  fell_out still (Err _) e none = none

  pub came_out : (r : Result Unit NoneInRange) → IsErr r → Nowhere board stretches stored before → Came board stretches stored before after r
  came_out (Ok _) e none = absurd (false≢true e)
  came_out (Err _) e none = none

-- what a search finds nothing after, it finds nothing before
pub nowhere_down : {board : List ℕ} {stretches stored before between : List ℤ} → Down board stretches stored before between → Nowhere board stretches stored between → Nowhere board stretches stored before
nowhere_down down none d z h = none d z (down.settling d z h)
