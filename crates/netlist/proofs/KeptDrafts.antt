-- What is kept of a draft: to keep what a line says and add it to what was kept is to add the line and keep all.
-- Assumes nothing.
use mathlib.Core.Path.{◌≡◌, refl}
use Prim.Native.Nat.{ℕ, suc, ◌≤◌}
use native.Mathlib.Omega.{arith}
use lib.ListN.{length, get_or, length-set}
use lib.Seq.{get_or-set_other}
use Rattle.image.specs.Parts.{no_element, no_curve, no_parts, in_version}
use Rattle.image.specs.declared.parts.Curve.{Curve}
use Rattle.image.specs.declared.parts.Element.{Element}
use Rattle.image.specs.declared.parts.Parts.{Parts}
use Rattle.netlist.specs.Draft.{with_element, with_curve, resettled, with_setting, blank_draft, noted, fault_of, with_line}
use Rattle.netlist.specs.Kept.{most_byte, most_word, byte, word, kept_element, kept_curve, kept_header, kept_parts, header_kept, kept_draft, kept_line}
use Rattle.netlist.specs.declared.draft.Draft.{Draft}
use Rattle.netlist.specs.declared.said.Field.{Field}
use Rattle.netlist.specs.declared.said.Field.TheVariants.{Drives, Output, Rate}
use Rattle.netlist.specs.declared.said.Line.{Line}
use Rattle.netlist.specs.declared.said.Line.TheVariants as line
use Rattle.netlist.proofs.KeptCurves.{fits, twice, max_kept, max_word, none_kept, store_kept, none-there, store-each, TidyCurve, tidy_none, TidyLine}

-- ---- parts

-- the arrays have no more places than a byte can count, and none past the counts has a number that is too large
pub record Tidy (parts : Parts) : Type 0 where
  pub few_elements : length parts.elements ≤ most_byte
  pub few_curves : length parts.curves ≤ most_byte
  pub elements_past : (j : ℕ) → parts.element_count ≤ j → kept_element (get_or parts.elements j no_element) ≡ get_or parts.elements j no_element
  pub curves_past : (k : ℕ) → parts.curve_count ≤ k → kept_curve (get_or parts.curves k no_curve) ≡ get_or parts.curves k no_curve
  pub curves : (k : ℕ) → TidyCurve (get_or parts.curves k no_curve)

pub tidy_blank : Tidy blank_draft.parts
unfolding blank_draft no_parts in_version
tidy_blank = record {
  few_elements = omega arith;
  few_curves = omega arith;
  elements_past = λ j h. rw (none-there 32 j no_element);
  curves_past = λ k h. rw (none-there 8 k no_curve) none_kept;
  curves = λ k. rw (none-there 8 k no_curve) tidy_none;
}

module _ (parts : Parts) (tidy : Tidy parts) where
  tidy_element : (e : Element) → Tidy (with_element parts e)
  unfolding with_element
  tidy_element e = record {
    few_elements = rw length-set tidy.few_elements;
    few_curves = tidy.few_curves;
    elements_past = λ j h. rw (get_or-set_other parts.elements parts.element_count j e no_element (λ q. omega arith)) (tidy.elements_past j (omega arith));
    curves_past = tidy.curves_past;
    curves = tidy.curves;
  }

  tidy_curve : (c : Curve) → TidyCurve c → Tidy (with_curve parts c)
  unfolding with_curve
  tidy_curve c t = record {
    few_elements = tidy.few_elements;
    few_curves = rw length-set tidy.few_curves;
    elements_past = tidy.elements_past;
    curves_past = λ k h. rw (get_or-set_other parts.curves parts.curve_count k c no_curve (λ q. omega arith)) (tidy.curves_past k (omega arith));
    curves = store-each TidyCurve parts.curves parts.curve_count c no_curve t tidy.curves;
  }

  tidy_resettled : (nodes driven output rate : ℕ) → Tidy (resettled parts nodes driven output rate)
  tidy_resettled nodes driven output rate = record {
    few_elements = tidy.few_elements;
    few_curves = tidy.few_curves;
    elements_past = tidy.elements_past;
    curves_past = tidy.curves_past;
    curves = tidy.curves;
  }

  tidy_setting : (field : Field) (n : ℕ) → Tidy (with_setting parts field n)
  unfolding with_setting
  tidy_setting Drives n = tidy_resettled _ _ _ _
  tidy_setting Output n = tidy_resettled _ _ _ _
  tidy_setting Rate n = tidy_resettled _ _ _ _

  element_kept : (e : Element) → kept_parts (with_element parts e) ≡ kept_header (with_element (kept_parts parts) (kept_element e))
  unfolding kept_parts kept_header with_element
  element_kept e =
      let m : byte (suc (byte parts.element_count)) ≡ byte (suc parts.element_count) = omega arith in
      rw (max_kept parts.nodes e.p e.q, m, store_kept kept_element parts.elements parts.element_count e tidy.few_elements) (simp twice)

  curve_kept : (c : Curve) → kept_parts (with_curve parts c) ≡ kept_header (with_curve (kept_parts parts) (kept_curve c))
  unfolding kept_parts kept_header with_curve
  curve_kept c =
      let m : byte (suc (byte parts.curve_count)) ≡ byte (suc parts.curve_count) = omega arith in
      rw (m, store_kept kept_curve parts.curves parts.curve_count c tidy.few_curves) (simp twice)

  setting_kept : (field : Field) (n : ℕ) → kept_parts (with_setting parts field n) ≡ kept_header (with_setting (kept_parts parts) field (word n))
  unfolding kept_parts kept_header with_setting
  setting_kept Drives n =
      let m : byte (word n) ≡ byte n = omega arith in
      rw m (simp twice)
  setting_kept Output n =
      let m : byte (word n) ≡ byte n = omega arith in
      rw (max_word parts.nodes n, m) (simp twice)
  setting_kept Rate n = simp twice

-- no number outside the arrays is too large
pub record Small (parts : Parts) : Type 0 where
  pub nodes : parts.nodes ≤ most_byte
  pub driven : parts.driven ≤ most_byte
  pub output : parts.output ≤ most_byte
  pub rate : parts.rate ≤ most_word
  pub elements : parts.element_count ≤ most_byte
  pub curves : parts.curve_count ≤ most_byte

-- each number of theirs is kept as it is
pub record FieldsKept (parts : Parts) : Type 0 where
  pub nodes : byte parts.nodes ≡ parts.nodes
  pub driven : byte parts.driven ≡ parts.driven
  pub output : byte parts.output ≡ parts.output
  pub rate : word parts.rate ≡ parts.rate
  pub element_count : byte parts.element_count ≡ parts.element_count
  pub curve_count : byte parts.curve_count ≡ parts.curve_count

pub fields_kept : (parts : Parts) → Small parts → FieldsKept parts
fields_kept parts s = record {
  nodes = fits _ most_byte s.nodes;
  driven = fits _ most_byte s.driven;
  output = fits _ most_byte s.output;
  rate = fits _ most_word s.rate;
  element_count = fits _ most_byte s.elements;
  curve_count = fits _ most_byte s.curves;
}

pub small_kept : (parts : Parts) → Small parts → kept_header parts ≡ parts
unfolding kept_header
small_kept parts s = let k = fields_kept parts s in rw (k.nodes, k.driven, k.output, k.rate, k.element_count, k.curve_count)

-- ---- drafts

pub blank_kept : kept_draft blank_draft ≡ blank_draft
unfolding blank_draft kept_parts kept_curve no_parts in_version
blank_kept = refl

module _ (d : Draft) where
  pub tidy_line : Tidy d.parts → (l : Line) → TidyLine l → Tidy (with_line d l).parts
  unfolding with_line
  tidy_line tidy line.Broken t = tidy
  tidy_line tidy line.Empty t = tidy
  tidy_line tidy line.Outside t = tidy
  tidy_line tidy (line.Part e) t = tidy_element d.parts tidy e
  tidy_line tidy (line.Setting Drives n) t = tidy_setting d.parts tidy Drives n
  tidy_line tidy (line.Setting Output n) t = tidy_setting d.parts tidy Output n
  tidy_line tidy (line.Setting Rate n) t = tidy_setting d.parts tidy Rate n
  tidy_line tidy (line.Curve c) t = tidy_curve d.parts tidy c t

  -- kept once is kept
  parts_twice : kept_header (kept_parts d.parts) ≡ kept_parts d.parts
  unfolding kept_header kept_parts
  parts_twice = simp twice

  line_kept : Tidy d.parts → (l : Line) → header_kept (with_line (kept_draft d) (kept_line l)) ≡ kept_draft (with_line d l)
  unfolding with_line
  line_kept tidy line.Broken = rw parts_twice
  line_kept tidy line.Empty = rw parts_twice
  line_kept tidy line.Outside = rw parts_twice
  line_kept tidy (line.Part e) = rw (element_kept d.parts tidy e)
  line_kept tidy (line.Setting Drives n) = rw (setting_kept d.parts tidy Drives n)
  line_kept tidy (line.Setting Output n) = rw (setting_kept d.parts tidy Output n)
  line_kept tidy (line.Setting Rate n) = rw (setting_kept d.parts tidy Rate n)
  line_kept tidy (line.Curve c) = rw (curve_kept d.parts tidy c)

  pub said_kept : (e : Draft) (x y : Line) → Tidy d.parts → e ≡ kept_draft d → x ≡ kept_line y → header_kept (with_line e x) ≡ kept_draft (with_line d y)
  said_kept e x y tidy p q = rw (p, q) (line_kept tidy y)

  -- a setting is noted, whatever is kept
  pub noted_kept : (field : Field) → noted (header_kept d) field ≡ header_kept (noted d field)
  noted_kept Drives = refl
  noted_kept Output = refl
  noted_kept Rate = refl

  -- a fault is one of the line as it was said
  pub fault_kept : (l : Line) → fault_of (kept_draft d) (kept_line l) ≡ fault_of d l
  unfolding fault_of
  fault_kept line.Broken = refl
  fault_kept line.Empty = refl
  fault_kept line.Outside = refl
  fault_kept (line.Part e) = refl
  fault_kept (line.Setting Drives n) = refl
  fault_kept (line.Setting Output n) = refl
  fault_kept (line.Setting Rate n) = refl
  fault_kept (line.Curve c) = refl
