-- Climbing: from something low to something low that is higher. Assumes nothing.
use mathlib.Core.Path.{◌≡◌, refl}
use mathlib.Core.Bool.{Bool, true, false, cond}
use mathlib.Core.List.{List}
use mathlib.Core.Logic.{⊎_elim}
use Prim.Native.Nat.{ℕ, ◌<◌}
use native.Mathlib.Omega.{arith}
use lib.IntN.{ℤ, pos, nat_abs}
use lib.Signed.{◌≤ℤ◌, lt_z}
use borrow.Author.Tests.{leb-false}
use Rattle.units.specs.Integer.{up, dn}
use Rattle.units.specs.Voltage.{voltage_limit, within, InRange, bottom, clamped}
use Rattle.units.proofs.Integers.{signs, pos_law, abs_law, one_sided, lt_z_true}
use Rattle.network.specs.Network.{Network, reading}
use Rattle.network.specs.Sample.{Legal, Low, Under}
use Rattle.network.specs.Search.{Settling, depth}
use Rattle.network.proofs.Nodes.{by_node}
use Rattle.network.proofs.Hold.{keep_drives}
use Rattle.network.proofs.Settle.{settling_start}
use Rattle.network.proofs.Measures.{depth_over}
use Rattle.circuit.specs.Board.{network_on}
use Rattle.std.proofs.Common.{Result, Ok, Err}
use Rattle.std.specs.Result.{IsOk}
use Rattle.solve.specs.declared.settle.NoneInRange.{NoneInRange}
use Rattle.solve.specs.Search.{Searching, Came}
use Rattle.solve.specs.Climb.{Risen, Further}
use Rattle.solve.proofs.PlaceLaws.{searching_legal}

-- what is at or above a voltage in range is so too once it is brought into range
pub clamped_over : (s a : ℤ) → InRange s → s ≤ℤ a → s ≤ℤ clamped a
unfolding clamped
clamped_over s a inside above = go (within voltage_limit a) refl (lt_z a (pos 0)) refl
  where
    go : (b : Bool) → within voltage_limit a ≡ b → (n : Bool) → lt_z a (pos 0) ≡ n → s ≤ℤ cond b a (cond n bottom (pos voltage_limit))
    go true e n f = above
    go false e true f = absurd (⊎_elim
        (λ (z : dn a ≡ 0). omega (signs, lt_z_true a (pos 0) f, pos_law 0))
        (λ (z : up a ≡ 0). omega (signs, leb-false (nat_abs a) voltage_limit e, abs_law a, abs_law s)) (one_sided a))
    go false e false f = omega (signs, abs_law s, pos_law voltage_limit)

-- one turn of a climb from z to v: v is low, has z's drives, and is higher
pub record Turned (board : List ℕ) (stretches stored z v : List ℤ) : Type 0 where
  pub low : Low (network_on board stretches) (reading stored) (reading v)
  pub legal : (d : ℕ → ℤ) → Legal (network_on board stretches) d (reading z) → Legal (network_on board stretches) d (reading v)
  pub falls : depth (network_on board stretches) (reading v) < depth (network_on board stretches) (reading z)

-- from z, which is low, certify came to s; u is nowhere lower, and from there settle came to v
module _ {board : List ℕ} {stretches stored z nets s u there : List ℤ} (from : Searching board stretches stored z nets) (low : Low (network_on board stretches) (reading stored) (reading z)) (risen : Risen board stretches stored z s) (at : Searching board stretches stored u there) (further : Further board s u) where
  abbrev N : Network
  N = network_on board stretches

  over : Under (network_on board stretches) (reading s) (reading u)
  over = by_node N (λ (j : ℕ). reading s j ≤ℤ reading u j) (λ j f. omega (signs, further.same j f)) (λ j f. further.free j f.0 (omega (arith, f.1)))

  legal_there : (d : ℕ → ℤ) → Legal (network_on board stretches) d (reading z) → Legal (network_on board stretches) d (reading u)
  legal_there d legal = record { drives = keep_drives (reading s) (reading u) (risen.low d legal low).0.drives further.same; range = λ i f. at.evaluable.ranged i f.1 }

  began : (d : ℕ → ℤ) → Legal (network_on board stretches) d (reading z) → Settling (network_on board stretches) (reading stored) d (reading u) (reading u)
  began d legal = settling_start N (reading stored) d (reading u) (legal_there d legal)

  -- settle passes nothing low, and s is: so it comes to something, and no lower than s
  pub turned : {v : List ℤ} (r : Result Unit NoneInRange) → Came board stretches stored u v r → IsOk r × Turned board stretches stored z v
  turned {v} (Ok _) came =
      let own = searching_legal from in
      let k = risen.low _ own low in
      let above : Under N (reading s) (reading v) = (came.0.settling _ (reading u) (began _ own)).covers (reading s) k.0 k.1 over in (
        refl,
        record {
          low = came.1;
          legal = λ d legal. (came.0.settling d (reading u) (began d legal)).legal;
          falls = omega (arith, risen.falls, depth_over N (reading v) (reading s) above);
        },
      )
  turned (Err _) none =
      let own = searching_legal from in
      let k = risen.low _ own low in
      absurd (none _ (reading u) (began _ own) (reading s) k.0 k.1 over)
