-- Of an image that breaks no rule, a netlist is written where its node count, which is the highest node that it names, is the image's, and only there. Assumes nothing.
use mathlib.Core.Path.{◌≡◌, refl}
use mathlib.Core.Bool.{Bool, true, false, cond}
use Rattle.std.proofs.Common.{Ok, Err}
use Prim.Native.Nat.{ℕ, zero, suc, ◌≤◌}
use native.Mathlib.Omega.{arith}
use lib.Dec.{ltb}
use borrow.Author.Tests.{ltb-false, le-ltb}
use Rattle.units.specs.declared.number.Number.TheVariants.{Conductance}
use Rattle.image.specs.Conductance.{conductances_fit}
use Rattle.image.specs.Setting.{plain}
use Rattle.image.specs.Sound.{Sound}
use Rattle.image.specs.declared.parts.Parts.{Parts}
use Rattle.parts.specs.Named.{highest_among, highest_named}
use Rattle.parts.specs.Answer.{judged_outcome}
use Rattle.parts.specs.declared.answer.Reason.TheVariants.{Refused, Unnamed}

module _ (parts : Parts) where
  -- no line names a node past the count
  highest_within : Sound parts → (n : ℕ) → n ≤ parts.element_count → highest_among parts n ≤ parts.nodes
  unfolding highest_among
  highest_within sound zero h = sound.output_there
  highest_within sound (suc n) h = omega (arith, highest_within sound n (omega arith), sound.p_there n (omega arith), sound.q_there n (omega arith))

  -- only there
  pub netlist_counts : Sound parts → judged_outcome parts ≡ Ok parts → highest_named parts ≡ parts.nodes
  unfolding judged_outcome
  netlist_counts sound e = go (conductances_fit parts plain) (ltb (highest_named parts) parts.nodes) refl e
    where
      go : (fits fewer : Bool) → ltb (highest_named parts) parts.nodes ≡ fewer → cond fits (cond fewer (Err (Unnamed parts.nodes)) (Ok parts)) (Err (Refused Conductance)) ≡ Ok parts → highest_named parts ≡ parts.nodes
      go true true q e = let z : ◌≡◌ {A = ℕ} 0 1 = cc in absurd (omega arith)
      go true false q e = omega (arith, ltb-false (highest_named parts) parts.nodes q, highest_within sound parts.element_count (omega arith))
      go false fewer q e = let z : ◌≡◌ {A = ℕ} 0 1 = cc in absurd (omega arith)

  -- and wherever it is
  pub counted_netlist : conductances_fit parts plain ≡ true → highest_named parts ≡ parts.nodes → judged_outcome parts ≡ Ok parts
  unfolding judged_outcome
  counted_netlist fits e = rw (fits, le-ltb (highest_named parts) parts.nodes (omega arith))
