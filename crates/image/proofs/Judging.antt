-- What the number that parts are judged by says of them, and the number of an opened image's parts. Assumes nothing.
use mathlib.Core.Path.{◌≡◌, refl, ap}
use mathlib.Core.Bool.{Bool, true, false, cond}
use mathlib.Core.List.{List}
use Prim.Native.Nat.{ℕ, ◌≤◌}
use native.Mathlib.Omega.{arith}
use Rattle.units.specs.Number.{number_of}
use Rattle.units.specs.declared.number.Number.{Number}
use Rattle.units.specs.declared.number.Number.TheVariants as number
use Rattle.image.specs.Parts.{header_fits, curve_sizes_fit, curves_fit, elements_fit}
use Rattle.image.specs.Conductance.{conductances_fit}
use Rattle.image.specs.Setting.{plain}
use Rattle.image.specs.Format.{opened, opening_of}
use Rattle.image.specs.Judged.{judged_by, judged}
use Rattle.image.specs.Sound.{Sound}
use Rattle.image.proofs.Opening.{opened_kept}
use Rattle.image.proofs.Sound.{sound}
use Rattle.image.specs.declared.parts.Parts.{Parts}

-- a rule with a number of its own that gave 0 holds
held : (n : Number) (b : Bool) (rest : Number) → 1 ≤ number_of n → judged_by n b rest ≡ number.Done → (b ≡ true) × (rest ≡ number.Done)
held n true rest some e = (refl, e)
held n false rest some e = absurd (omega (arith, ap number_of e))

-- each of the rules 2 to 6
pub record Keeps (parts : Parts) : Type 0 where
  pub header : header_fits parts ≡ true
  pub sizes : curve_sizes_fit parts ≡ true
  pub curves : curves_fit parts ≡ true
  pub elements : elements_fit parts ≡ true
  pub conductances : conductances_fit parts plain ≡ true

-- parts that are judged by 0 keep them all, and those that do are
pub judged_keeps : (parts : Parts) → judged parts ≡ number.Done → Keeps parts
unfolding judged
judged_keeps parts e =
    let a = held number.Trailer (header_fits parts) _ (omega arith) e in
    let b = held number.Sizes (curve_sizes_fit parts) _ (omega arith) a.1 in
    let c = held number.Curve (curves_fit parts) _ (omega arith) b.1 in
    let d = held number.Element (elements_fit parts) _ (omega arith) c.1 in
    let f = held number.Conductance (conductances_fit parts plain) _ (omega arith) d.1 in
    record { header = a.0; sizes = b.0; curves = c.0; elements = d.0; conductances = f.0 }

pub keeps_judged : (parts : Parts) → Keeps parts → judged parts ≡ number.Done
unfolding judged
keeps_judged parts k = rw (k.header, k.sizes, k.curves, k.elements, k.conductances)

-- parts that are judged by 0 are sound, and their conductances fit
pub judged_sound : (parts : Parts) → judged parts ≡ number.Done → Sound parts × (conductances_fit parts plain ≡ true)
judged_sound parts e =
    let k = judged_keeps parts e in
    (sound parts k.header k.sizes k.curves k.elements, k.conductances)

-- those of an image that is opened break no rule but the sixth
pub opened_judged : (image : List ℕ) (parts : Parts) → opening_of image ≡ opened parts → judged parts ≡ cond (conductances_fit parts plain) number.Done number.Conductance
unfolding judged
opened_judged image parts e =
    let k = opened_kept image parts e in
    rw (k.header, k.sizes, k.curves, k.elements)
