-- A netlist is of sound parts, and each curve that is written of an answer is short enough. Assumes nothing.
use mathlib.Core.Path.{◌≡◌}
use mathlib.Core.Bool.{Bool, true, false, cond}
use mathlib.Core.List.{[]}
use lib.Dec.{ltb}
use Rattle.units.specs.declared.number.Number.TheVariants.{Conductance}
use Rattle.image.specs.Conductance.{conductances_fit}
use Rattle.image.specs.Setting.{plain}
use Rattle.image.specs.Sound.{Sound}
use Rattle.parts.specs.Named.{highest_named}
use Rattle.parts.specs.declared.answer.Reason.TheVariants.{Refused, Unnamed}
use Prim.Native.Nat.{ℕ, ◌≤◌, ◌<◌}
use native.Mathlib.Omega.{arith}
use lib.ListN.{length, get_or, length-take}
use Rattle.std.proofs.Common.{Ok, Err}
use Rattle.std.proofs.lemmas.List.{get_or-take}
use Rattle.network.specs.Network.{breakpoint_count_limit}
use Rattle.image.specs.declared.parts.Parts.{Parts}
use Rattle.report.proofs.CurveLaws.{curve_few}
use Rattle.parts.specs.Answer.{Answer, judged_outcome, Ready, curves_of}

pub judged_ready : (parts : Parts) (a : Answer) → Sound parts → a ≡ judged_outcome parts → Ready a
unfolding judged_outcome
judged_ready parts a sound e = rw e (go (conductances_fit parts plain) (ltb (highest_named parts) parts.nodes))
  where
    go : (fits fewer : Bool) → Ready (cond fits (cond fewer (Err (Unnamed parts.nodes)) (Ok parts)) (Err (Refused Conductance)))
    go true true = tt
    go true false = sound
    go false fewer = tt

pub curve_written : (a : Answer) (k : ℕ) → Ready a → k < length (curves_of a) → (get_or (curves_of a) k (record { count = 0; slopes = []; breakpoints = [] })).count ≤ breakpoint_count_limit
curve_written (Ok parts) k sound h =
    let there : k < parts.curve_count = omega (arith, length-take parts.curve_count parts.curves) in
    rw (get_or-take _ parts.curves k _ there) (curve_few parts k sound there)
curve_written (Err reason) k sound h = absurd (omega arith)
