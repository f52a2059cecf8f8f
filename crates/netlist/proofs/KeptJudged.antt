-- Parts are judged as what is kept of them is, and what is kept of parts that pass is all of them: holding numbers to their fields changes no answer.
-- Assumes nothing.
use mathlib.Core.Path.{◌≡◌, refl, sym, ap}
use mathlib.Core.Bool.{Bool, true, false, cond}
use Rattle.std.proofs.Common.{Ok, Err}
use mathlib.Core.List.{List, [], ◌∷◌, map}
use mathlib.Core.Logic.{⊎_elim}
use Prim.Native.Nat.{ℕ, suc, ◌+◌, ◌-◌, ◌≤◌, ◌<◌}
use native.Mathlib.Omega.{arith}
use lib.Dec.{eqb}
use lib.IntN.{pos}
use lib.ListN.{get_or}
use borrow.Author.Tests.{leb-true, eqb-true}
use Rattle.units.specs.Number.{number_of}
use Rattle.units.specs.Table.{every}
use Rattle.units.specs.declared.number.Number.TheVariants as number
use Rattle.units.proofs.Every.{both, between_says, every_says}
use Rattle.units.proofs.Integers.{decide_n}
use Rattle.units.proofs.Numbers.{done_only}
use Rattle.network.specs.Network.{reading, breakpoint_count_limit, conductance_limit}
use Rattle.image.specs.Judged.{judged}
use Rattle.image.specs.Parts.{no_element, no_curve, element_of, curve_of, header_fits, curve_size_fits, curve_sizes_fit, slope_fits, breakpoint_fits, rises, curve_fits, curves_fit, elements_fit}
use Rattle.image.specs.declared.parts.Curve.{Curve}
use Rattle.image.specs.declared.parts.Parts.{Parts}
use Rattle.image.proofs.Judging.{judged_keeps}
use Rattle.image.proofs.Places.{element_there, curve_there}
use Rattle.image.proofs.Says.{header_says}
use Rattle.netlist.specs.Answer.{Answer, judged_answer, at_end}
use Rattle.netlist.specs.Kept.{most_byte, most_word, word, kept_breakpoint, kept_element, kept_curve, kept_header, kept_parts, kept_draft}
use Rattle.netlist.specs.declared.draft.Draft.{Draft}
use Rattle.netlist.specs.declared.reader.Refusal.TheVariants.{Rules}
use Rattle.netlist.proofs.KeptCurves.{fits, TidyCurve}
use Rattle.netlist.proofs.KeptDrafts.{Tidy, small_kept}
use Rattle.netlist.proofs.KeptRules.{judged_same, small, header_kept_lem, breakpoint_small, curve_sizes_kept, curves_kept, element_small, elements_kept, conductances_kept}

-- what is kept of parts is judged as they are
pub kept_judged : (parts : Parts) → judged (kept_parts parts) ≡ judged parts
unfolding judged
kept_judged parts =
    judged_same number.Trailer (header_kept_lem parts)
    (λ e. judged_same number.Sizes (curve_sizes_kept parts (small parts e))
    (λ f. judged_same number.Curve (curves_kept parts (small parts e) f)
    (λ g. judged_same number.Element (elements_kept parts (small parts e) e)
    (λ h. judged_same number.Conductance (conductances_kept parts (small parts e)) (λ i. refl)))))

-- a list of which each place is kept as it is
each-kept {ℓ} : {A : Type ℓ} (f : A → A) (l : List A) (d : A) → ((j : ℕ) → f (get_or l j d) ≡ get_or l j d) → map f l ≡ l
each-kept f [] d each = refl
each-kept f (a ∷ l) d each = rw (each 0, each-kept f l d (λ j. each (suc j)))

-- a curve that passes
curve_all : (c : Curve) → TidyCurve c → curve_size_fits c.count ≡ true → curve_fits c ≡ true → kept_curve c ≡ c
unfolding kept_curve curve_fits
curve_all c tidy e f =
    let t = between_says 1 breakpoint_count_limit c.count e in
    let a = both {b = every (rises c.breakpoints) (c.count - 1)} f in
    let b = both {a = every (slope_fits c.slopes) (c.count + 1)} {b = every (breakpoint_fits c.breakpoints) c.count} a.0 in
    rw (fits c.count most_byte (omega arith), each-kept word c.slopes 0 (slope b.0), each-kept kept_breakpoint c.breakpoints (pos 0) (breakpoint b.1))
  where
    slope : every (slope_fits c.slopes) (c.count + 1) ≡ true → (j : ℕ) → word (get_or c.slopes j 0) ≡ get_or c.slopes j 0
    slope g j =
        ⊎_elim
        (λ (h : j ≤ c.count). let w = leb-true (get_or c.slopes j 0) conductance_limit (every_says (slope_fits c.slopes) (c.count + 1) j g (omega arith)) in fits (get_or c.slopes j 0) most_word (omega arith))
        (tidy.slopes_past j)
        (decide_n j c.count)

    breakpoint : every (breakpoint_fits c.breakpoints) c.count ≡ true → (j : ℕ) → kept_breakpoint (reading c.breakpoints j) ≡ reading c.breakpoints j
    breakpoint g j = ⊎_elim (tidy.breakpoints_past j) (breakpoint_small c g j) (decide_n c.count j)

-- each place of the arrays of parts that pass
module _ (parts : Parts) (tidy : Tidy parts) where
  elements_all : header_fits parts ≡ true → elements_fit parts ≡ true → (j : ℕ) → kept_element (get_or parts.elements j no_element) ≡ get_or parts.elements j no_element
  unfolding elements_fit
  elements_all e f j =
      ⊎_elim (tidy.elements_past j)
      (λ (l : j < parts.element_count). let h = header_says parts e in rw (sym (element_there parts j l)) (element_small parts.version parts.nodes parts.curve_count h.few_nodes h.few_curves (element_of parts j) (every_says _ parts.element_count j f l)))
      (decide_n parts.element_count j)

  curves_all : curve_sizes_fit parts ≡ true → curves_fit parts ≡ true → (k : ℕ) → kept_curve (get_or parts.curves k no_curve) ≡ get_or parts.curves k no_curve
  unfolding curve_sizes_fit curves_fit
  curves_all f g k =
      ⊎_elim (tidy.curves_past k)
      (λ (l : k < parts.curve_count). let t = rw (sym (curve_there parts k l)) at (tidy.curves k) in rw (sym (curve_there parts k l)) (curve_all (curve_of parts k) t (every_says _ parts.curve_count k f l) (every_says _ parts.curve_count k g l)))
      (decide_n parts.curve_count k)

  -- what is kept of parts that pass is all of them
  pub all_kept : number_of (judged parts) ≡ 0 → kept_parts parts ≡ parts
  unfolding kept_parts kept_header
  all_kept e =
      let k = judged_keeps parts (done_only (judged parts) e) in
      rw (each-kept kept_element parts.elements no_element (elements_all k.header k.elements), each-kept kept_curve parts.curves no_curve (curves_all k.sizes k.curves))
      (small_kept parts (small parts k.header))

  -- the answer by the rules is the same
  answer_kept : judged_answer (kept_parts parts) ≡ judged_answer parts
  answer_kept = rw (kept_judged parts) (go (eqb (number_of (judged parts)) 0) refl)
    where
      no : Answer
      no = Err (Rules (judged parts))

      go : (t : Bool) → eqb (number_of (judged parts)) 0 ≡ t → cond t (Ok (kept_parts parts)) no ≡ cond t (Ok parts) no
      go true e = ap Ok (all_kept (eqb-true (number_of (judged parts)) 0 e))
      go false e = refl

-- so the answer at the end is that of the lines' own numbers
pub end_kept : (n : ℕ) (d : Draft) → Tidy d.parts → at_end n (kept_draft d) ≡ at_end n d
unfolding at_end
end_kept n d tidy = rw (answer_kept d.parts tidy)
