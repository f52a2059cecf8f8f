-- Demand 3 of what a host has: any sample of a call that is accepted, and any other voltages (`network/proofs/Demand3.antt` has the proof). Assumes nothing.
--
-- "Take an accepted sample and any voltages of the free nodes, on any grid of k-ths of a microvolt, whose net current at every free node misses zero by at most e femtoamperes, with the
-- same drives and stored currents. Let B be a whole number such that, at every free node, B times the conductance held to ground and driven nodes, leak included, is at least the sum
-- of steepest slopes plus e. Then no free node differs by B microvolts or more; and with e zero, ours is never the higher."
--
-- "The same stored currents" are those before this sample, as the call has them. Of a run whose stored currents have drifted from another's nothing is said.
use mathlib.Core.Path.{◌≡◌}
use mathlib.Core.List.{List}
use Prim.Native.Nat.{ℕ, ◌≤◌, ◌<◌}
use lib.IntN.{ℤ}
use Rattle.network.specs.Sample.{Accepted}
use Rattle.network.specs.Bound.{Balances, Close}
use Rattle.network.proofs.Demand3.{demand_3}
use Rattle.block.specs.Call.{Called}
use Rattle.block.specs.Host.{count_in, output_at, SampleAt, circuitOf, storedBefore, drivesOf}
use Rattle.block.proofs.Demand1.{count_told}
use Rattle.block.proofs.HostLaws.{came, accepts}
use Rattle.block.proofs.PlayLaws.{parts_limits}

-- the sample's voltages, one of which is its output, and how close any others are to them
pub record Trusted {image bytes : List ℕ} {n : ℕ} {drives outputs : List ℕ} {j : ℕ} (s : SampleAt image bytes n drives outputs j) (heard : ℤ) : Type 0 where
  pub voltages : ℕ → ℤ
  pub after : ℕ → ℤ
  pub accepts : Accepted (circuitOf s) (storedBefore s) (drivesOf s) voltages after
  pub is : heard ≡ voltages s.parts.output
  pub close : (k e : ℕ) (w : ℕ → ℤ) → 1 ≤ k → Balances k e (circuitOf s) (storedBefore s) (drivesOf s) w → Close (circuitOf s) voltages k e w

pub demand_3_of_a_call : {image bytes : List ℕ} {n : ℕ} {drives outputs : List ℕ} {answer : ℕ} {bytes' outputs' : List ℕ} → (called : Called image bytes n drives outputs answer bytes' outputs') → {j : ℕ} (s : SampleAt image bytes n drives outputs j) → j < count_in answer → Trusted s (output_at outputs' j)
demand_3_of_a_call {image = image} called s h =
    let a = accepts s (came s called.plays) (rw (count_told called) at h) in
    let limits = parts_limits image s.parts s.opens s.conducts in
    record {
      voltages = a.voltages;
      after = a.after;
      accepts = a.accepts;
      is = a.heard;
      close = λ k e w grid b. demand_3 (circuitOf s) limits (storedBefore s) (drivesOf s) a.voltages a.after a.accepts k grid e w b;
    }
