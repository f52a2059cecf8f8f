-- A leap: where it leads, and what the net currents at the far end prove. Assumes nothing.
use mathlib.Core.Path.{◌≡◌, refl}
use mathlib.Core.List.{List}
use mathlib.Core.Logic.{◌⊎◌, inl, inr}
use Prim.Native.Nat.{ℕ, ◌+◌, ◌≤◌, ◌<◌}
use native.Mathlib.Nat.{le_refl}
use native.Mathlib.Omega.{arith}
use lib.IntN.{ℤ, pos, ◌-ℤ◌}
use lib.ListN.{length}
use lib.Signed.{◌≤ℤ◌, ◌<ℤ◌}
use borrow.Author.Count.{below_more}
use Rattle.units.specs.Voltage.{voltage_limit}
use Rattle.units.proofs.Integers.{signs, sub_law, neg_law, pos_law, abs_law}
use Rattle.network.specs.Network.{Free, reading}
use Rattle.network.specs.Sample.{Under}
use Rattle.network.specs.Search.{Sank, still}
use Rattle.network.proofs.Nodes.{by_node}
use Rattle.network.proofs.Descend.{sank_under, sunk_list}
use Rattle.network.proofs.Settle.{leap_settling}
use Rattle.circuit.specs.Board.{nodes_on, driven_on, network_on}
use Rattle.solve.specs.Search.{Searching, Down}
use Rattle.solve.specs.Leap.{Reached, Led, LandedAt, stays, sinks, Lands}
use Rattle.solve.proofs.PlaceLaws.{set_cases, short_of}

-- ---- where it leads

-- ---- the far end, as far as node i

pub record LandsTo (board : List ℕ) (stretches stored volts s e nets : List ℤ) (i : ℕ) : Type 0 where
  pub searching : Searching board stretches stored e nets
  pub sank : Sank (network_on board stretches) (reading stored) (reading s) (reading e)
  pub falls : (j : ℕ) → j < i → Free (network_on board stretches) j → (reading volts j ≤ℤ reading s j) ⊎ (reading e j <ℤ reading s j)
  pub later : (j : ℕ) → i ≤ j → reading e j ≡ reading s j

module _ {board : List ℕ} {stretches stored volts s : List ℤ} where
  pub lands_none : {nets : List ℤ} → Searching board stretches stored s nets → LandsTo board stretches stored volts s s nets (driven_on board + 1)
  lands_none given = record { searching = given; sank = still (λ j l. refl); falls = λ j l f. absurd (omega (arith, f.0)); later = λ j l. refl }

  module _ {e nets : List ℤ} {i : ℕ} (h : LandsTo board stretches stored volts s e nets i) (free : Free (network_on board stretches) i) where
    pub lands_next : {next then : List ℤ} → LandedAt board stretches stored volts e i next → Searching board stretches stored next then → LandsTo board stretches stored volts s next then (i + 1)
    lands_next (stays over) searching = record {
      searching = searching;
      sank = h.sank;
      falls = below_more (λ (j : ℕ). Free (network_on board stretches) j → (reading volts j ≤ℤ reading s j) ⊎ (reading e j <ℤ reading s j)) i h.falls (λ f. inl (omega (signs, over, h.later i (le_refl i))));
      later = λ j l. h.later j (omega arith);
    }
    lands_next (sinks leapt high) searching =
        let u = reading e i -ℤ pos 1 in
        let same = h.later i (le_refl i) in
        let short : i < length e = short_of h.searching free.1 in
        record {
          searching = searching;
          sank = sunk_list (network_on board stretches) (reading stored) (reading s) e i short free high h.sank;
          falls = λ j l f. set_cases (λ (k : ℕ) (w : ℤ). (reading volts k ≤ℤ reading s k) ⊎ (w <ℤ reading s k)) e i j u short (inr (omega (signs, same, sub_law (reading e i) (pos 1), pos_law 1))) (λ n. h.falls j (omega (arith, n)) f);
          later = λ j l. set_cases (λ (k : ℕ) (w : ℤ). i < k → w ≡ reading s k) e i j u short (λ m. absurd (omega arith)) (λ n m. h.later j (omega arith)) (omega arith);
        }

-- ---- the leap

module _ {board : List ℕ} {volts s : List ℤ} (led : Led board volts s) where
  led_at : (j : ℕ) → driven_on board < j → j ≤ nodes_on board → Reached (reading volts j) (reading s j)
  led_at j above there = led.free j above (omega arith)

  pub leap_down : {stretches stored e nets : List ℤ} → Searching board stretches stored e nets → Lands board stretches stored volts s e → Down board stretches stored volts e
  leap_down {stretches} {stored} {e} there lands =
      let N = network_on board stretches in
      let below : Under N (reading s) (reading volts) = by_node N (λ (j : ℕ). reading s j ≤ℤ reading volts j) (λ j f. omega (signs, led.same j f)) (λ j f. (led_at j f.0 f.1).down) in
      record {
        under = λ j l. omega (signs, sank_under lands.sank j l, below j l);
        settling = λ d z h. leap_settling N (reading stored) d z (reading volts) h (reading s) (reading e) there.evaluable.ready.laid.limits.wired led.same below lands.sank
            (by_node N (λ (j : ℕ). (reading volts j ≤ℤ reading s j) ⊎ (reading e j <ℤ reading s j)) (λ j f. inl (omega (signs, led.same j f))) lands.falls)
            (λ i f. omega (signs, there.evaluable.ranged i f.1, abs_law (reading e i), neg_law (pos voltage_limit), pos_law voltage_limit));
      }
