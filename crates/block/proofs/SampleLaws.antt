-- A sample of the code is one of the block, and what is known after it for the next. Assumes nothing.
use mathlib.Core.Path.{◌≡◌, refl, ◌∙◌}
use mathlib.Core.List.{List}
use Prim.Native.Nat.{ℕ, suc, ◌+◌, ◌*◌, ◌≤◌, ◌<◌}
use native.Mathlib.Omega.{arith}
use native.Mathlib.Nat.{mul-le-mul_right}
use native.Mathlib.Numerals.{add-one}
use lib.IntN.{ℤ}
use lib.ListN.{length}
use mir.Syntax.{w64}
use mir.Val.{of_z}
use Rattle.units.specs.Bytes.{written}
use Rattle.units.specs.Number.{number_of}
use Rattle.units.specs.declared.number.Number.{Number}
use Rattle.units.proofs.LittleEndian.{written_length}
use Rattle.network.specs.Network.{Network, reading}
use Rattle.network.specs.Sample.{Outcome, accepted, answer_of, Accepted, Gives}
use Rattle.network.proofs.Outcome.{gives_alike}
use Rattle.circuit.specs.Board.{driven_on, network_on}
use Rattle.solve.specs.Answer.{drives_at}
use Rattle.solve.specs.Sample.{Playable, Sampled, passed, refused}
use Rattle.block.specs.Block.{drive_at, Run, start, sample}
use Rattle.block.specs.Drives.{Begun}
use Rattle.block.specs.Playing.{Driven, Room, state_of, Ran, short}
use Rattle.block.specs.declared.call.State.{State}

-- ---- a sample of the code, with the drives that stand at the driven nodes

module _ (board : List ℕ) (stretches : List ℤ) (drives : List ℕ) (j : ℕ) (volts x : List ℤ) (begun : Begun board drives j volts) where
  moved : (r : Outcome) → Gives (network_on board stretches) (reading x) (drives_at volts) r → Gives (network_on board stretches) (reading x) (drive_at drives (driven_on board) j) r
  moved r g = gives_alike (network_on board stretches) (reading x) (reading x) (drives_at volts) (drive_at drives (driven_on board) j) (λ i h. refl) begun r g

  pub sampled_is : {y v : List ℤ} {r : Number} → Sampled (network_on board stretches) (drives_at volts) x y v r → Sampled (network_on board stretches) (drive_at drives (driven_on board) j) x y v r
  sampled_is {y = y} {v = v} (passed g l o) = passed (moved (accepted (reading v) (reading y)) g) l o
  sampled_is (refused r g s l) = refused r (moved r g) s l

-- ---- from one sample to the next

pub record Passed (N : Network) (d : ℕ → ℤ) (x y v : List ℤ) : Type 0 where
  pub gives : Accepted N (reading x) d (reading v) (reading y)
  pub long : length y ≡ length x
  pub others : (i : ℕ) → N.count ≤ i → reading y i ≡ reading x i

pub record Refused (N : Network) (d : ℕ → ℤ) (x y : List ℤ) (answer : Number) : Type 0 where
  pub outcome : Outcome
  pub gives : Gives N (reading x) d outcome
  pub some : 0 < number_of (answer_of outcome)
  pub left : y ≡ x
  pub is : answer ≡ answer_of outcome

-- number 0 is an accepted sample, any other a refused one
pub passed_is : {N : Network} {d : ℕ → ℤ} {x y v : List ℤ} {r : Number} → Sampled N d x y v r → number_of r ≡ 0 → Passed N d x y v
passed_is (passed g l o) e = record { gives = g; long = l; others = o }
passed_is (refused r g s l) e = absurd (omega arith)

pub refused_is : {N : Network} {d : ℕ → ℤ} {x y v : List ℤ} {r : Number} → Sampled N d x y v r → (number_of r ≡ 0 → ⊥) → Refused N d x y r
refused_is (passed g l o) n = absurd (n refl)
refused_is (refused r g s l) n = record { outcome = r; gives = g; some = s; left = l; is = refl }

-- after an accepted sample the next may be played
pub playable_on : {board : List ℕ} {stretches x y v : List ℤ} {d : ℕ → ℤ} → Playable board stretches x → Passed (network_on board stretches) d x y v → Playable board stretches y
playable_on p q = record { ready = p.ready; kept = q.gives.kept; long = q.long ∙ p.long }

-- as many output bytes as before
pub run_length : {N : ℕ → Network} {output : ℕ} {d : ℕ → ℕ → ℤ} {x : State} {outputs : List ℕ} {j : ℕ} {y : State} {o : List ℕ} → Run N output d x outputs j y o → length o ≡ length outputs
run_length start = refl
run_length {output = output} (sample {j = j} {o = o} v r g l k) = written_length 4 o (4 * j) (of_z w64 (v output)) ∙ run_length r

module _ {N : Network} {output : ℕ} {d : ℕ → ℕ → ℤ} {x₀ : List ℤ} {outputs : List ℕ} {j : ℕ} {x y : List ℤ} {o : List ℕ} (run : Run (λ (j : ℕ). N) output d (state_of x₀) outputs j (state_of x) o) where
  -- one more sample
  pub run_more : {v : List ℤ} → Passed N (d j) x y v → Run (λ (j : ℕ). N) output d (state_of x₀) outputs (j + 1) (state_of y) (written 4 o (4 * j) (of_z w64 (reading v output)))
  run_more {v = v} q = rw add-one (sample (reading v) run q.gives q.long q.others)

  -- .. or the end of the run
  pub run_short : {r : Number} {n : ℕ} → j < n → Refused N (d j) x y r → Ran N output d x₀ n outputs y o (number_of r) j
  run_short h q = rw (q.is, q.left) (short j q.outcome h run q.gives q.some)

-- the drives of each of n samples are there
pub driven_there : (board drives outputs : List ℕ) (output n j : ℕ) → Room board output n drives outputs → j < n → Driven board drives j
driven_there board drives outputs output n j r h = record { few = omega (arith, r.few); there = omega (arith, r.driven, more) }
  where
    more : suc j * driven_on board ≤ n * driven_on board
    more = mul-le-mul_right (driven_on board) (omega (arith, h))
