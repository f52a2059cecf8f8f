-- Document 01's bench cases that are marked P, as one table: 14 samples, and the two B; and two samples with the leak of document 02's request 6. Assumes nothing.
-- The networks are those that the named images mean: 1000 ohm is 1,000,000 nS, 10,000 pF at 48,000 Hz is 960,000 nS, the leak is 1 nS, or
-- 10 nS where the image is of version 2. Each has one free node, the one after the driven ones.
use Rattle.std.specs.Prelude.{◌≡◌, List, [], ◌∷◌, ◌++◌, ℕ, suc, length, get_or, ℤ, pos, neg_ℤ}
use Rattle.units.specs.Number.{number_of}
use Rattle.network.specs.Network.{Law, conductance, curve, Store, nothing, capacitor, Branch, no_branch, Network, reading}
use Rattle.network.specs.Sample.{Outcome, accepted, railRefused, answer_of, Gives}
use Rattle.network.specs.Bound.{LeastEnough}

pub record Circuit : Type 0 where
  pub leak : ℕ
  pub driven : ℕ
  pub branches : List Branch

abbrev pub network_of : Circuit → Network
network_of c = record { leak = c.leak; nodes = suc c.driven; driven = c.driven; count = length c.branches; branch = λ (j : ℕ). get_or c.branches j no_branch }

-- what document 01 says: the free node's voltage and the stored currents after the sample, or the rail
pub data Result : Type 0 where
  settles : ℤ → List ℤ → Result
  rail : Result

-- ground, the drives, the free node
abbrev pub voltages : List ℤ → ℤ → ℕ → ℤ
voltages drives z = reading (pos 0 ∷ drives ++ (z ∷ []))

abbrev pub outcome_of : List ℤ → Result → Outcome
outcome_of drives (settles z stored) = accepted (voltages drives z) (reading stored)
outcome_of drives rail = railRefused

-- a circuit with its stored currents and drives, the number and what comes of the sample; a circuit and its B for e = 0
pub data Case : Type 0 where
  sample : Circuit → List ℤ → List ℤ → ℕ → Result → Case
  bound : Circuit → ℕ → Case

-- what a case says
abbrev pub Holds : Case → Type 0
Holds (sample c stored drives n r) = Gives (network_of c) (reading stored) (reading drives) (outcome_of drives r) × (number_of (answer_of (outcome_of drives r)) ≡ n)
Holds (bound c B) = LeastEnough (network_of c) 0 B

abbrev pub AllHold : List Case → Type 0
AllHold [] = Unit {0}
AllHold (c ∷ cs) = Holds c × AllHold cs

-- ---- the circuits

abbrev part : ℕ → ℕ → Law → Store → Branch
part p q law store = record { p = p; q = q; law = law; store = store }

-- 1000 ohm from 1 to 2, 1000 ohm from 2 to ground
abbrev pub divider : Circuit
divider = record { leak = 1; driven = 1; branches = part 1 2 (conductance 1_000_000) nothing ∷ part 2 0 (conductance 1_000_000) nothing ∷ [] }

-- 1000 ohm from 1 to 2, 10,000 pF from 2 to ground
abbrev pub low_pass : Circuit
low_pass = record { leak = 1; driven = 1; branches = part 1 2 (conductance 1_000_000) nothing ∷ part 2 0 (conductance 960_000) capacitor ∷ [] }

-- 1000 ohm from 1 to 2, a diode from 2 to ground
abbrev pub clipper : Circuit
clipper = record { leak = 1; driven = 1; branches = part 1 2 (conductance 1_000_000) nothing ∷ part 2 0 (curve (0 ∷ 10_000_000 ∷ []) (pos 600_000 ∷ [])) nothing ∷ [] }

-- 10,000 pF alone on a free node
abbrev pub lone : Circuit
lone = record { leak = 1; driven = 0; branches = part 1 0 (conductance 960_000) capacitor ∷ [] }

-- the divider as version 2 has it
abbrev pub stiff_divider : Circuit
stiff_divider = record { leak = 10; driven = divider.driven; branches = divider.branches }

-- ---- the table

abbrev minus : ℕ → ℤ
minus n = neg_ℤ (pos n)

-- one sample of a circuit that stores nothing
abbrev plain : Circuit → ℤ → ℤ → Case
plain c drive z = sample c [] (drive ∷ []) 0 (settles z [])

unfoldable pub cases : List Case
cases =
    plain divider (pos 0) (pos 0)
    ∷ plain divider (pos 1) (pos 0)
    ∷ plain divider (minus 1) (minus 1)
    ∷ plain divider (pos 1_000_000) (pos 499_999)
    ∷ plain divider (minus 1_000_000) (minus 500_000)
    ∷ bound divider 1
    ∷ plain stiff_divider (pos 1_000_000) (pos 499_997)
    ∷ plain stiff_divider (minus 1_000_000) (minus 499_998)
    ∷ sample low_pass [] (pos 1_000_000 ∷ []) 0 (settles (pos 510_203) (pos 0 ∷ pos 979_589_760_000 ∷ []))
    ∷ sample low_pass (pos 0 ∷ pos 979_589_760_000 ∷ []) (pos 1_000_000 ∷ []) 0 (settles (pos 1_009_994) (pos 0 ∷ pos 959_598_720_000 ∷ []))
    ∷ plain clipper (pos 1_000_000) (pos 636_363)
    ∷ plain clipper (pos 500_000) (pos 499_999)
    ∷ plain clipper (minus 1_000_000) (minus 1_000_000)
    ∷ bound clipper 11
    ∷ sample lone (pos 32_212_288_274_431 ∷ []) [] 0 (settles (pos 33_554_431) (pos 32_212_219_245_569 ∷ []))
    ∷ sample lone (pos 32_212_288_274_432 ∷ []) [] 10 rail
    ∷ sample lone (minus 32_212_288_274_432 ∷ []) [] 0 (settles (minus 33_554_432) (minus 32_212_221_165_568 ∷ []))
    ∷ sample lone (minus 32_212_288_274_433 ∷ []) [] 10 rail
    ∷ []
