-- What the version is to a circuit's parts: the rules look at nothing of it but whether there is such a version, and their network has its leak. Assumes
-- nothing.
use mathlib.Core.Path.{◌≡◌, refl, sym, ◌∙◌, ap}
use mathlib.Core.Bool.{true, false}
use Prim.Native.Nat.{ℕ, ◌<◌}
use lib.Dec.{leb}
use borrow.Author.Tests.{le-leb, lt-leb}
use Rattle.units.specs.Table.{between}
use Rattle.units.specs.declared.number.Number.TheVariants as number
use Rattle.units.proofs.Every.{and_no}
use Rattle.image.specs.Conductance.{conductances_fit}
use Rattle.image.specs.Judged.{judged}
use Rattle.image.specs.Meaning.{leak_of, branch_at, network_at}
use Rattle.image.specs.Parts.{version1, version2, in_version, element_of, curve_of, header_fits, curve_sizes_fit, curves_fit, element_fits, elements_fit}
use Rattle.image.specs.Setting.{Setting}
use Rattle.image.proofs.Judging.{judged_keeps}
use Rattle.image.proofs.Says.{HeaderSays, header_says}
use Rattle.image.specs.declared.parts.Parts.{Parts}

-- ---- the network

-- the leak is all that another version changes of it
pub record OnlyTheLeak (version : ℕ) (parts : Parts) (setting : Setting) : Type 0 where
  pub leak : (network_at (in_version version parts) setting).leak ≡ leak_of version
  pub nodes : (network_at (in_version version parts) setting).nodes ≡ (network_at parts setting).nodes
  pub driven : (network_at (in_version version parts) setting).driven ≡ (network_at parts setting).driven
  pub count : (network_at (in_version version parts) setting).count ≡ (network_at parts setting).count
  pub branch : (j : ℕ) → (network_at (in_version version parts) setting).branch j ≡ (network_at parts setting).branch j

pub only_the_leak : (version : ℕ) (parts : Parts) (setting : Setting) → OnlyTheLeak version parts setting
unfolding in_version branch_at element_of curve_of
only_the_leak version parts setting = record { leak = refl; nodes = refl; driven = refl; count = refl; branch = λ j. refl }

-- ---- the rules

-- parts in their own version
pub own_version : (parts : Parts) → in_version parts.version parts ≡ parts
unfolding in_version
own_version parts = refl

-- two versions that there are, or two that there are not, are judged alike
pub versions_alike : (a b : ℕ) (parts : Parts) → between version1 version2 a ≡ between version1 version2 b → judged (in_version a parts) ≡ judged (in_version b parts)
unfolding judged in_version header_fits curve_sizes_fit curves_fit element_fits elements_fit conductances_fit element_of curve_of
versions_alike a b parts e = rw e refl

-- so parts that pass do so in every version that there is
pub version_passes : (version : ℕ) (parts : Parts) → between version1 version2 version ≡ true → judged parts ≡ number.Done → judged (in_version version parts) ≡ number.Done
version_passes version parts e done =
    let own : between version1 version2 parts.version ≡ true = rw (le-leb version1 parts.version header.version_low, le-leb parts.version version2 header.version_high) in
    versions_alike version parts.version parts (e ∙ sym own) ∙ ap judged (own_version parts) ∙ done
  where
    header : HeaderSays parts
    header = header_says parts (judged_keeps parts done).header

-- in one that there is not they are 2, whatever else is wrong
pub version_refused : (version : ℕ) (parts : Parts) → between version1 version2 version ≡ false → judged (in_version version parts) ≡ number.Trailer
unfolding judged header_fits in_version
version_refused version parts e = rw (e, and_no)

-- there is none above the second
pub none_above : (version : ℕ) → version2 < version → between version1 version2 version ≡ false
none_above version h = rw (lt-leb version version2 h) (and_no (leb version1 version))
