-- The greatest number of a field is one that no rule lets pass: so each rule, where those before it hold, is kept by parts if it is by what is kept of them.
-- Assumes nothing.
use mathlib.Core.Path.{◌≡◌, refl, sym, ◌∙◌, ap}
use mathlib.Core.Bool.{Bool, true, false, ◌&&◌, not, cond}
use mathlib.Core.List.{map}
use mathlib.Core.Logic.{⊎_elim}
use Prim.Native.Nat.{ℕ, suc, ◌+◌, ◌-◌, ◌≤◌, ◌<◌, min}
use native.Mathlib.Omega.{arith}
use lib.Dec.{eqb, leb, ltb}
use lib.IntN.{ℤ, pos, negsuc, nat_abs}
use lib.ListN.{get_or, get_or-map}
use borrow.Author.Tests.{leb-true, ltb-true, eqb-true, lt-leb, le-ltb, ne_eqb}
use Rattle.units.specs.Table.{every}
use Rattle.units.specs.declared.number.Number.{Number}
use Rattle.units.proofs.Every.{both, and_no, between_says, every_says, every_same}
use Rattle.units.proofs.Integers.{decide_n}
use Rattle.units.proofs.Sizes.{abs_neg}
use Rattle.network.specs.Kind.{has_curve}
use Rattle.network.specs.Network.{reading, node_limit, breakpoint_limit, breakpoint_count_limit, conductance_limit}
use Rattle.image.specs.Conductance.{conductance_by, conductance_fits, conductances_fit}
use Rattle.image.specs.Judged.{judged_by}
use Rattle.image.specs.Parts.{curve_limit, no_element, no_curve, element_of, curve_of, header_fits, curve_size_fits, curve_sizes_fit, slope_fits, breakpoint_fits, rises, curve_fits, curves_fit, kind_allowed, element_fits, elements_fit}
use Rattle.image.specs.Setting.{plain}
use Rattle.image.specs.declared.parts.Curve.{Curve}
use Rattle.image.specs.declared.parts.Element.{Element}
use Rattle.image.specs.declared.parts.Parts.{Parts}
use Rattle.image.proofs.Says.{header_says}
use Rattle.netlist.specs.Kept.{most_byte, most_word, most_size, byte, word, size, kept_breakpoint, kept_element, kept_curve, kept_header, kept_parts}
use Rattle.netlist.proofs.LineLaws.{agree}
use Rattle.netlist.proofs.KeptCurves.{fits}
use Rattle.netlist.proofs.KeptDrafts.{Small, small_kept}

-- ---- tests

-- one that no number from the greatest on passes
kept_test : (test : ℕ → Bool) (most n : ℕ) → ((m : ℕ) → most ≤ m → test m ≡ false) → test (min n most) ≡ test n
kept_test test most n fails =
    ⊎_elim (λ (h : most ≤ n). fails (min n most) (omega arith) ∙ sym (fails n h))
    (λ (h : n < most). rw (fits n most (omega arith)))
    (decide_n most n)

-- two tests, the second of which is only asked where the first passes
and_same : {a b c d : Bool} → a ≡ b → (b ≡ true → c ≡ d) → a && c ≡ b && d
and_same {b = true} e f = rw (e, f refl)
and_same {b = false} e f = rw e

-- all below a number that is kept
every_kept : (f g : ℕ → Bool) {m n : ℕ} → m ≡ n → ((i : ℕ) → i < n → f i ≡ g i) → every f m ≡ every g n
every_kept f g {n = n} e same = rw e (every_same f g n same)

-- a rule, and those after it, which are only asked where it holds
pub judged_same : (n : Number) {a b : Bool} {r t : Number} → a ≡ b → (b ≡ true → r ≡ t) → judged_by n a r ≡ judged_by n b t
judged_same n {b = true} e f = rw (e, f refl)
judged_same n {b = false} e f = rw e

-- ---- the header

-- no number of a header that passes is too large, nor is one of which what is kept passes
pub small : (parts : Parts) → header_fits parts ≡ true → Small parts
small parts e =
    let h = header_says parts e in
    record { nodes = omega arith; driven = omega arith; output = omega arith; rate = omega arith; elements = omega arith; curves = omega arith }

kept_small : (parts : Parts) → header_fits (kept_parts parts) ≡ true → Small parts
unfolding kept_parts
kept_small parts e =
    let h = header_says (kept_parts parts) e in
    record { nodes = omega (arith, h.few_nodes); driven = omega (arith, h.few_nodes, h.driven_there); output = omega (arith, h.few_nodes, h.output_there); rate = omega (arith, h.rate_high); elements = omega (arith, h.few_elements); curves = omega (arith, h.few_curves) }

header_same : (parts : Parts) → Small parts → header_fits (kept_parts parts) ≡ header_fits parts
unfolding header_fits kept_parts kept_header
header_same parts s = ap header_fits (small_kept parts s)

pub header_kept_lem : (parts : Parts) → header_fits (kept_parts parts) ≡ header_fits parts
header_kept_lem parts = agree _ _ (λ e. sym (header_same parts (kept_small parts e)) ∙ e) (λ e. header_same parts (small parts e) ∙ e)

-- ---- curves

-- the number of breakpoints
size_kept : (n : ℕ) → curve_size_fits (byte n) ≡ curve_size_fits n
size_kept n = kept_test curve_size_fits most_byte n (λ m h. rw (lt-leb m breakpoint_count_limit (omega arith)) (and_no (leb 1 m)))

-- the size of a breakpoint
abs_kept : (z : ℤ) → nat_abs (kept_breakpoint z) ≡ size (nat_abs z)
abs_kept (pos n) = refl
abs_kept (negsuc n) = abs_neg (pos (size (suc n)))

breakpoint_fits_lem : (z : ℤ) → nat_abs z ≤ most_size → kept_breakpoint z ≡ z
breakpoint_fits_lem (pos n) h = rw (fits n most_size h)
breakpoint_fits_lem (negsuc n) h = rw (fits (suc n) most_size h)

module _ (c : Curve) where
  slope_test : (j : ℕ) → slope_fits (map word c.slopes) j ≡ slope_fits c.slopes j
  slope_test j =
      rw (get_or-map word c.slopes j 0)
      (kept_test (λ (n : ℕ). leb n conductance_limit) most_word (get_or c.slopes j 0) (λ m h. lt-leb m conductance_limit (omega arith)))

  breakpoint_test : (j : ℕ) → breakpoint_fits (map kept_breakpoint c.breakpoints) j ≡ breakpoint_fits c.breakpoints j
  breakpoint_test j =
      rw (get_or-map kept_breakpoint c.breakpoints j (pos 0), abs_kept (reading c.breakpoints j))
      (kept_test (λ (n : ℕ). leb n breakpoint_limit) most_size (nat_abs (reading c.breakpoints j)) (λ m h. lt-leb m breakpoint_limit (omega arith)))

  -- below its count
  pub breakpoint_small : every (breakpoint_fits c.breakpoints) c.count ≡ true → (j : ℕ) → j < c.count → kept_breakpoint (reading c.breakpoints j) ≡ reading c.breakpoints j
  breakpoint_small e j h =
      let w = leb-true (nat_abs (reading c.breakpoints j)) breakpoint_limit (every_says (breakpoint_fits c.breakpoints) c.count j e h) in
      breakpoint_fits_lem (reading c.breakpoints j) (omega arith)

  rise_test : every (breakpoint_fits c.breakpoints) c.count ≡ true → (j : ℕ) → j + 1 < c.count → rises (map kept_breakpoint c.breakpoints) j ≡ rises c.breakpoints j
  rise_test e j h = rw (get_or-map kept_breakpoint c.breakpoints j (pos 0), get_or-map kept_breakpoint c.breakpoints (j + 1) (pos 0), breakpoint_small e j (omega arith), breakpoint_small e (j + 1) h)

  curve_fits_kept : c.count ≤ most_byte → curve_fits (kept_curve c) ≡ curve_fits c
  unfolding curve_fits kept_curve
  curve_fits_kept short =
      rw (fits c.count most_byte short)
      (and_same
      (and_same (every_same _ _ (c.count + 1) (λ j h. slope_test j)) (λ e. every_same _ _ c.count (λ j h. breakpoint_test j)))
      (λ e. every_same _ _ (c.count - 1) (λ j h. rise_test (both {a = every (slope_fits c.slopes) (c.count + 1)} e).1 j (omega arith))))

-- those of parts
module _ (parts : Parts) (s : Small parts) where
  curve_of_kept : (k : ℕ) → curve_of (kept_parts parts) k ≡ kept_curve (curve_of parts k)
  unfolding curve_of kept_parts kept_curve
  curve_of_kept k = rw (fits parts.curve_count most_byte s.curves) (go (ltb k parts.curve_count))
    where
      go : (t : Bool) → cond t (get_or (map kept_curve parts.curves) k no_curve) no_curve ≡ kept_curve (cond t (get_or parts.curves k no_curve) no_curve)
      go true = get_or-map kept_curve parts.curves k no_curve
      go false = refl

  pub curve_sizes_kept : curve_sizes_fit (kept_parts parts) ≡ curve_sizes_fit parts
  unfolding curve_sizes_fit kept_parts kept_curve
  curve_sizes_kept = every_kept _ _ (fits parts.curve_count most_byte s.curves) (λ k h. ap (λ (c : Curve). curve_size_fits c.count) (curve_of_kept k) ∙ size_kept (curve_of parts k).count)

  pub curves_kept : curve_sizes_fit parts ≡ true → curves_fit (kept_parts parts) ≡ curves_fit parts
  unfolding curve_sizes_fit curves_fit kept_parts
  curves_kept e =
      every_kept _ _ (fits parts.curve_count most_byte s.curves)
      (λ k h.
      let t = between_says 1 breakpoint_count_limit (curve_of parts k).count (every_says (λ (k : ℕ). curve_size_fits (curve_of parts k).count) parts.curve_count k e h) in
      ap curve_fits (curve_of_kept k) ∙ curve_fits_kept (curve_of parts k) (omega arith))

-- ---- elements

module _ (version nodes curves : ℕ) (few_nodes : nodes ≤ node_limit) (few_curves : curves ≤ curve_limit) (e : Element) where
  node_kept : (n : ℕ) → leb (byte n) nodes ≡ leb n nodes
  node_kept n = kept_test (λ (m : ℕ). leb m nodes) most_byte n (λ m h. lt-leb m nodes (omega arith))

  curve_number_kept : (t : Bool) → cond t (ltb (byte e.curve) curves && eqb e.value 0) (eqb (byte e.curve) 0 && leb 1 e.value) ≡ cond t (ltb e.curve curves && eqb e.value 0) (eqb e.curve 0 && leb 1 e.value)
  curve_number_kept true = and_same (kept_test (λ (m : ℕ). ltb m curves) most_byte e.curve (λ m h. le-ltb m curves (omega arith))) (λ q. refl)
  curve_number_kept false = and_same (kept_test (λ (m : ℕ). eqb m 0) most_byte e.curve (λ m h. ne_eqb m 0 (λ q. omega arith))) (λ q. refl)

  -- its nodes, where both are there
  nodes_small : (kind_allowed version e.kind && leb e.p nodes && leb e.q nodes) ≡ true → (e.p ≤ most_byte) × (e.q ≤ most_byte)
  nodes_small t =
      let a = both {b = leb e.q nodes} t in
      let b = both {a = kind_allowed version e.kind} {b = leb e.p nodes} a.0 in
      let p = leb-true e.p nodes b.1 in
      let q = leb-true e.q nodes a.1 in
      (omega arith, omega arith)

  element_fits_kept : element_fits version nodes curves (kept_element e) ≡ element_fits version nodes curves e
  unfolding element_fits
  element_fits_kept =
      rw (node_kept e.p, node_kept e.q, curve_number_kept (has_curve e.kind)) (go (kind_allowed version e.kind && leb e.p nodes && leb e.q nodes) refl)
    where
      rest : Bool
      rest = cond (has_curve e.kind) (ltb e.curve curves && eqb e.value 0) (eqb e.curve 0 && leb 1 e.value)

      go : (t : Bool) → (kind_allowed version e.kind && leb e.p nodes && leb e.q nodes) ≡ t → (t && not (eqb (byte e.p) (byte e.q)) && rest) ≡ (t && not (eqb e.p e.q) && rest)
      go true h = let small = nodes_small h in rw (fits e.p most_byte small.0, fits e.q most_byte small.1)
      go false h = refl

  pub element_small : element_fits version nodes curves e ≡ true → kept_element e ≡ e
  unfolding element_fits
  element_small t =
      let a = both {b = cond (has_curve e.kind) (ltb e.curve curves && eqb e.value 0) (eqb e.curve 0 && leb 1 e.value)} t in
      let b = both {b = not (eqb e.p e.q)} a.0 in
      let small = nodes_small b.0 in
      rw (fits e.p most_byte small.0, fits e.q most_byte small.1, fits e.curve most_byte (go (has_curve e.kind) a.1))
    where
      go : (t : Bool) → cond t (ltb e.curve curves && eqb e.value 0) (eqb e.curve 0 && leb 1 e.value) ≡ true → e.curve ≤ most_byte
      go true q = omega (arith, ltb-true e.curve curves (both {a = ltb e.curve curves} {b = eqb e.value 0} q).0)
      go false q = omega (arith, eqb-true e.curve 0 (both {a = eqb e.curve 0} {b = leb 1 e.value} q).0)

module _ (parts : Parts) (s : Small parts) where
  element_of_kept : (j : ℕ) → element_of (kept_parts parts) j ≡ kept_element (element_of parts j)
  unfolding element_of kept_parts
  element_of_kept j = rw (fits parts.element_count most_byte s.elements) (go (ltb j parts.element_count))
    where
      go : (t : Bool) → cond t (get_or (map kept_element parts.elements) j no_element) no_element ≡ kept_element (cond t (get_or parts.elements j no_element) no_element)
      go true = get_or-map kept_element parts.elements j no_element
      go false = refl

  pub elements_kept : header_fits parts ≡ true → elements_fit (kept_parts parts) ≡ elements_fit parts
  unfolding elements_fit kept_parts
  elements_kept e =
      let h = header_says parts e in
      every_kept _ _ (fits parts.element_count most_byte s.elements)
      (λ j l.
      ap (element_fits parts.version (byte parts.nodes) (byte parts.curve_count)) (element_of_kept j)
      ∙ rw (fits parts.nodes most_byte s.nodes, fits parts.curve_count most_byte s.curves) (element_fits_kept parts.version parts.nodes parts.curve_count h.few_nodes h.few_curves (element_of parts j)))

  pub conductances_kept : conductances_fit (kept_parts parts) plain ≡ conductances_fit parts plain
  unfolding conductances_fit kept_parts
  conductances_kept =
      every_kept _ _ (fits parts.element_count most_byte s.elements)
      (λ j l.
      ap (λ (e : Element). conductance_fits e.kind (conductance_by e.kind e.value (word parts.rate))) (element_of_kept j)
      ∙ rw (fits parts.rate most_word s.rate))
