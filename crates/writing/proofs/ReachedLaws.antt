-- Parts as far as their counts reach: the same elements, curves and rules, and the same network. Assumes nothing.
use mathlib.Core.Path.{◌≡◌, refl, sym, ◌∙◌, ap, fun_ext}
use mathlib.Core.Bool.{true}
use mathlib.Core.Logic.{⊎_elim}
use Prim.Native.Nat.{ℕ, suc, ◌+◌, ◌-◌, ◌≤◌, ◌<◌}
use native.Mathlib.Omega.{arith}
use lib.IntN.{pos}
use lib.ListN.{get_or}
use borrow.Author.Tests.{lt-ltb, le-ltb}
use Rattle.units.specs.Table.{tabulate, padded}
use Rattle.units.proofs.Every.{between_says, every_same}
use Rattle.units.proofs.Integers.{decide_n}
use Rattle.units.proofs.Tables.{tabulate-length, tabulate-same, padded_at}
use Rattle.network.specs.Network.{reading, branch_limit, breakpoint_count_limit}
use Rattle.image.specs.Parts.{curve_limit, no_element, no_curve, element_of, curve_of, slopes_of, breakpoints_of, header_fits, curve_size_fits, curve_sizes_fit, slope_fits, breakpoint_fits, rises, curve_fits, curves_fit, element_fits, elements_fit}
use Rattle.image.specs.Conductance.{conductance_fits, conductance_at, conductances_fit}
use Rattle.image.specs.Setting.{Setting}
use Rattle.image.specs.Sound.{Sound}
use Rattle.image.specs.Meaning.{branch_at, network_at}
use Rattle.image.proofs.Says.{header_says, curve_size}
use Rattle.image.specs.declared.parts.Curve.{Curve}
use Rattle.image.specs.declared.parts.Parts.{Parts}
use Rattle.writing.specs.Reached.{reached_curve, reached}

-- ---- curves

none_reached : reached_curve no_curve ≡ no_curve
unfolding reached_curve padded tabulate
none_reached = refl

module _ (c : Curve) (few : c.count ≤ breakpoint_count_limit) where
  slope_reached : (j : ℕ) → j < c.count + 1 → get_or (reached_curve c).slopes j 0 ≡ get_or c.slopes j 0
  unfolding reached_curve
  slope_reached j h = padded_at 0 (suc breakpoint_count_limit) (λ (j : ℕ). get_or c.slopes j 0) (c.count + 1) j (omega arith) h

  breakpoint_reached : (j : ℕ) → j < c.count → reading (reached_curve c).breakpoints j ≡ reading c.breakpoints j
  unfolding reached_curve
  breakpoint_reached j h = padded_at (pos 0) breakpoint_count_limit (reading c.breakpoints) c.count j few h

  slopes_reached : slopes_of (reached_curve c) ≡ slopes_of c
  unfolding slopes_of reached_curve
  slopes_reached = tabulate-same (λ (j : ℕ). get_or (reached_curve c).slopes j 0) (λ (j : ℕ). get_or c.slopes j 0) (suc c.count) (λ j h. slope_reached j (omega arith))

  breakpoints_reached : breakpoints_of (reached_curve c) ≡ breakpoints_of c
  unfolding breakpoints_of reached_curve
  breakpoints_reached = tabulate-same (reading (reached_curve c).breakpoints) (reading c.breakpoints) c.count breakpoint_reached

  fits_reached : curve_fits (reached_curve c) ≡ curve_fits c
  unfolding curve_fits reached_curve
  fits_reached =
      rw (every_same (slope_fits (reached_curve c).slopes) (slope_fits c.slopes) (c.count + 1) (λ j h. rw (slope_reached j h)), every_same (breakpoint_fits (reached_curve c).breakpoints) (breakpoint_fits c.breakpoints) c.count (λ j h. rw (breakpoint_reached j h)), every_same (rises (reached_curve c).breakpoints) (rises c.breakpoints) (c.count - 1) (λ j h. rw (breakpoint_reached j (omega arith), breakpoint_reached (j + 1) (omega arith))))

-- ---- parts

module _ (parts : Parts) where
  pub header_reached : header_fits (reached parts) ≡ header_fits parts
  unfolding header_fits reached
  header_reached = refl

  pub element_reached : parts.element_count ≤ branch_limit → (j : ℕ) → element_of (reached parts) j ≡ element_of parts j
  unfolding element_of reached
  element_reached few j =
      ⊎_elim
      (λ (h : parts.element_count ≤ j). rw (le-ltb j parts.element_count h))
      (λ (h : j < parts.element_count). rw (lt-ltb j parts.element_count h) (padded_at no_element branch_limit (element_of parts) parts.element_count j few h ∙ rw (lt-ltb j parts.element_count h)))
      (decide_n parts.element_count j)

  pub curve_reached : parts.curve_count ≤ curve_limit → (k : ℕ) → curve_of (reached parts) k ≡ reached_curve (curve_of parts k)
  unfolding curve_of reached
  curve_reached few k =
      ⊎_elim
      (λ (h : parts.curve_count ≤ k). rw (le-ltb k parts.curve_count h) (sym none_reached))
      (λ (h : k < parts.curve_count). rw (lt-ltb k parts.curve_count h) (padded_at no_curve curve_limit (λ (k : ℕ). reached_curve (curve_of parts k)) parts.curve_count k few h ∙ rw (lt-ltb k parts.curve_count h)))
      (decide_n parts.curve_count k)

-- the rules, one after the other, each where those before it hold
module _ (parts : Parts) (header : header_fits parts ≡ true) where
  few_elements : parts.element_count ≤ branch_limit
  few_elements = (header_says parts header).few_elements

  curve_here : (k : ℕ) → curve_of (reached parts) k ≡ reached_curve (curve_of parts k)
  curve_here = curve_reached parts (header_says parts header).few_curves

  pub sizes_reached : curve_sizes_fit (reached parts) ≡ curve_sizes_fit parts
  unfolding curve_sizes_fit reached curve_of reached_curve
  sizes_reached = every_same (λ (k : ℕ). curve_size_fits (curve_of (reached parts) k).count) (λ (k : ℕ). curve_size_fits (curve_of parts k).count) parts.curve_count (λ k h. ap curve_size_fits (count k))
    where
      count : (k : ℕ) → (curve_of (reached parts) k).count ≡ (curve_of parts k).count
      count k = ap (λ (c : Curve). c.count) (curve_here k)

  pub curves_reached : curve_sizes_fit parts ≡ true → curves_fit (reached parts) ≡ curves_fit parts
  unfolding curves_fit reached
  curves_reached sizes =
      every_same (λ (k : ℕ). curve_fits (curve_of (reached parts) k)) (λ (k : ℕ). curve_fits (curve_of parts k)) parts.curve_count
      (λ k h. rw (curve_here k) (fits_reached (curve_of parts k) (between_says 1 breakpoint_count_limit (curve_of parts k).count (curve_size parts sizes k h)).1))

  pub elements_reached : elements_fit (reached parts) ≡ elements_fit parts
  unfolding elements_fit reached
  elements_reached =
      every_same (λ (j : ℕ). element_fits parts.version parts.nodes parts.curve_count (element_of (reached parts) j)) (λ (j : ℕ). element_fits parts.version parts.nodes parts.curve_count (element_of parts j)) parts.element_count
      (λ j h. rw (element_reached parts few_elements j))

  pub conductances_reached : (setting : Setting) → conductances_fit (reached parts) setting ≡ conductances_fit parts setting
  unfolding conductances_fit reached
  conductances_reached setting =
      every_same (λ (j : ℕ). conductance_fits (element_of (reached parts) j).kind (conductance_at (reached parts) setting j)) (λ (j : ℕ). conductance_fits (element_of parts j).kind (conductance_at parts setting j)) parts.element_count
      (λ j h. rw (element_reached parts few_elements j))

-- ---- the network

-- parts that keep the rules mean the same network as far as their counts reach
module _ (parts : Parts) (sound : Sound parts) (setting : Setting) where
  -- no curve has more breakpoints than it may, past the last one neither
  count_few : (k : ℕ) → (curve_of parts k).count ≤ breakpoint_count_limit
  unfolding curve_of breakpoints_of
  count_few k =
      ⊎_elim
      (λ (h : parts.curve_count ≤ k). rw (le-ltb k parts.curve_count h) (omega arith))
      (λ (h : k < parts.curve_count). omega (arith, (sound.curves k h).few, tabulate-length (reading (curve_of parts k).breakpoints) (curve_of parts k).count))
      (decide_n parts.curve_count k)

  branch_reached : (j : ℕ) → branch_at (reached parts) setting j ≡ branch_at parts setting j
  unfolding branch_at reached
  branch_reached j =
      let c = curve_of parts (element_of parts j).curve in
      let few = count_few (element_of parts j).curve in
      rw (element_reached parts sound.few_elements j, curve_reached parts sound.few_curves (element_of parts j).curve, slopes_reached c few, breakpoints_reached c few)

  pub network_reached : network_at (reached parts) setting ≡ network_at parts setting
  unfolding reached
  network_reached = rw (fun_ext {f = branch_at (reached parts) setting} {g = branch_at parts setting} branch_reached)
