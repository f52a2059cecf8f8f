-- Demand 2, clause by clause, of what the call for C hosts promises. s is any sample that the call reaches (`SampleAt`): numbers 1 to 8 do not apply, and the samples
-- before it are accepted. Assumes nothing.
--
-- "For each sample with legal drives the free nodes take the highest whole-microvolt voltages at which no free node's net outgoing current is above zero: Kirchhoff's current law with
-- the trapezoidal companions of the published nodal DK method. The rail refusal comes exactly when no such voltages exist in range or the highest put a free node at the top. Number
-- 11 comes exactly when the rail refusal doesn't and those voltages take a stored current past its limit. No guess changes an answer."
use mathlib.Core.Path.{◌≡◌, sym, ◌∙◌, ap}
use mathlib.Core.List.{List}
use mathlib.Core.Logic.{◌⊎◌, inr, ⊎_elim}
use Prim.Native.Nat.{ℕ, ◌+◌, ◌*◌, ◌≤◌, ◌<◌}
use native.Mathlib.Omega.{arith}
use lib.IntN.{ℤ, nat_abs}
use Rattle.units.specs.Number.{number_of}
use Rattle.network.specs.Network.{Network, stored_limit, next}
use Rattle.network.specs.Sample.{Answer, Rail, AtTop, BelowTop, Outcome, accepted, driveRefused, railRefused, storedRefused, answer_of, DrivesLegal, DriveRefused, Gives}
use Rattle.network.proofs.Exists.{top_or_below}
use Rattle.network.proofs.Outcome.{not_rail}
use Rattle.block.specs.Call.{Called}
use Rattle.block.specs.Host.{number_in, count_in, output_at, SampleAt, circuitOf, storedBefore, drivesOf}
use Rattle.block.proofs.Demand1.{number_told, count_told}
use Rattle.block.proofs.HostLaws.{reaches, Came, came, accepts, refused_by, refuses, reached}
use Rattle.block.proofs.OneOutcome.{called_once}
use Rattle.block.proofs.PlayLaws.{parts_limits}

-- some answer takes a stored current past its limit
pub record Past (N : Network) (x d : ℕ → ℤ) : Type 0 where
  pub voltages : ℕ → ℤ
  pub answer : Answer N x d voltages
  pub branch : ℕ
  pub there : branch < N.count
  pub beyond : stored_limit < nat_abs (next N x voltages branch)

-- accepted with these voltages, and its output is the output node's
pub record Highest (N : Network) (x d : ℕ → ℤ) (output : ℕ) (heard : ℤ) : Type 0 where
  pub legal : DrivesLegal N d
  pub voltages : ℕ → ℤ
  pub answer : Answer N x d voltages
  pub below : BelowTop N voltages
  pub is : heard ≡ voltages output

-- unless the call is refused by 1 to 8, every sample before the count is reached, and the one that is refused
pub every_sample : {image bytes : List ℕ} {n : ℕ} {drives outputs : List ℕ} {answer : ℕ} {bytes' outputs' : List ℕ} → Called image bytes n drives outputs answer bytes' outputs' → (number_in answer ≡ 0) ⊎ (9 ≤ number_in answer) → (j : ℕ) → j ≤ count_in answer → j < n → SampleAt image bytes n drives outputs j
every_sample called said j h there = reaches called.plays (rw (number_told called) at said) j (rw (count_told called) at h) there

module _ {image bytes : List ℕ} {n : ℕ} {drives outputs : List ℕ} {answer : ℕ} {bytes' outputs' : List ℕ} (called : Called image bytes n drives outputs answer bytes' outputs') {j : ℕ} (s : SampleAt image bytes n drives outputs j) where
  abbrev N : Network
  N = circuitOf s

  abbrev x : ℕ → ℤ
  x = storedBefore s

  abbrev d : ℕ → ℤ
  d = drivesOf s

  result : Came s called.number called.count outputs'
  result = came s called.plays

  -- a sample that is reached is accepted or refused, by 9, 10 or 11 (`Demand1.answered`)
  pub accepted_or_refused : (j < count_in answer) ⊎ ((count_in answer ≡ j) × (9 ≤ number_in answer))
  accepted_or_refused = rw (number_told called, count_told called) (reached s result)

  -- "the free nodes take the highest whole-microvolt voltages at which no free node's net outgoing current is above zero"
  pub highest : j < count_in answer → Highest N x d s.parts.output (output_at outputs' j)
  highest h =
      let a = accepts s result (rw (count_told called) at h) in
      record { legal = a.accepts.drives; voltages = a.voltages; answer = a.accepts.answer; below = a.accepts.below; is = a.heard }

  -- refused by an outcome's number exactly when that is its outcome
  comes : (r : Outcome) → 0 < number_of (answer_of r) → Gives N x d r → answer ≡ number_of (answer_of r) * 65536 + j
  comes r some g = let e = refuses s result r g some in called.packed ∙ ap (λ (k : ℕ). k * 65536 + called.count) e.0 ∙ ap (λ (c : ℕ). number_of (answer_of r) * 65536 + c) e.1

  outcome : (k : ℕ) → answer ≡ k * 65536 + j → (r : Outcome) × Gives N x d r × (k ≡ number_of (answer_of r))
  outcome k e =
      let few : j < 65536 = omega (arith, s.there, s.begins.fit.few) in
      let count : called.count ≡ j = sym (count_told called) ∙ omega (arith, e, few) in
      let number : called.number ≡ k = sym (number_told called) ∙ omega (arith, e, few) in
      let r = refused_by s result count in
      (r.0, r.1, sym number ∙ r.2)

  -- "legal drives": number 9 comes exactly when some drive is beyond its limit
  pub drive_exactly : (answer ≡ 9 * 65536 + j → DriveRefused N d) × (DriveRefused N d → answer ≡ 9 * 65536 + j)
  drive_exactly = (λ e. let r = outcome 9 e in is r.0 r.1 r.2, comes driveRefused (omega arith))
    where
      is : (r : Outcome) → Gives N x d r → 9 ≡ number_of (answer_of r) → DriveRefused N d
      is (accepted v y) g k = absurd (omega (arith, k))
      is driveRefused g k = g
      is railRefused g k = absurd (omega (arith, k))
      is storedRefused g k = absurd (omega (arith, k))

  -- "The rail refusal comes exactly when no such voltages exist in range or the highest put a free node at the top"
  pub rail_exactly : (answer ≡ 10 * 65536 + j → DrivesLegal N d × Rail N x d) × (DrivesLegal N d × Rail N x d → answer ≡ 10 * 65536 + j)
  rail_exactly = (λ e. let r = outcome 10 e in is r.0 r.1 r.2, λ g. comes railRefused (omega arith) (record { drives = g.0; rail = g.1 }))
    where
      is : (r : Outcome) → Gives N x d r → 10 ≡ number_of (answer_of r) → DrivesLegal N d × Rail N x d
      is (accepted v y) g k = absurd (omega (arith, k))
      is driveRefused g k = absurd (omega (arith, k))
      is railRefused g k = (g.drives, g.rail)
      is storedRefused g k = absurd (omega (arith, k))

  -- "Number 11 comes exactly when the rail refusal doesn't and those voltages take a stored current past its limit"
  pub stored_exactly : (answer ≡ 11 * 65536 + j → DrivesLegal N d × (Rail N x d → ⊥) × Past N x d) × (DrivesLegal N d × (Rail N x d → ⊥) × Past N x d → answer ≡ 11 * 65536 + j)
  stored_exactly = (λ e. let r = outcome 11 e in is r.0 r.1 r.2, λ g. comes storedRefused (omega arith) (record { drives = g.0; voltages = g.2.voltages; answer = g.2.answer; below = below g.1 g.2; branch = g.2.branch; there = g.2.there; beyond = g.2.beyond }))
    where
      is : (r : Outcome) → Gives N x d r → 11 ≡ number_of (answer_of r) → DrivesLegal N d × (Rail N x d → ⊥) × Past N x d
      is (accepted v y) g k = absurd (omega (arith, k))
      is driveRefused g k = absurd (omega (arith, k))
      is railRefused g k = absurd (omega (arith, k))
      is storedRefused g k = (g.drives, not_rail N x d g.voltages g.answer g.below, record { voltages = g.voltages; answer = g.answer; branch = g.branch; there = g.there; beyond = g.beyond })

      below : (Rail N x d → ⊥) → (p : Past N x d) → BelowTop N p.voltages
      below not p = ⊎_elim (λ (t : AtTop N p.voltages). absurd (not (inr (p.voltages, p.answer, t)))) (λ (b : BelowTop N p.voltages). b) (top_or_below N x d (parts_limits image s.parts s.opens s.conducts).wired p.voltages p.answer.legal)

-- "No guess changes an answer": what is promised has no guess in it, and leaves one answer, one state and one content of the outputs
pub no_guess : (image bytes : List ℕ) (n : ℕ) (drives outputs : List ℕ) {a₁ a₂ : ℕ} {s₁ s₂ o₁ o₂ : List ℕ} → Called image bytes n drives outputs a₁ s₁ o₁ → Called image bytes n drives outputs a₂ s₂ o₂ → (a₁ ≡ a₂) × (s₁ ≡ s₂) × (o₁ ≡ o₂)
no_guess = called_once
