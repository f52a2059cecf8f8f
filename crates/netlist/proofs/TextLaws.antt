-- A text that is read line by line: what the lines so far say of the whole. Assumes nothing.
use mathlib.Core.Bool.{Bool, true, false, not, ◌&&◌, cond, false≢true, true≢false}
use mathlib.Core.Path.{◌≡◌, refl, sym, ◌∙◌, ap}
use Rattle.std.proofs.Common.{Some, None, Err}
use mathlib.Core.List.{List, [], ◌∷◌, ◌++◌}
use Prim.Native.Nat.{ℕ, suc, ◌+◌, ◌-◌, ◌≤◌, ◌<◌}
use lib.Dec.{eqb}
use borrow.Author.Tests.{ne_eqb, eq-eqb}
use native.Mathlib.Omega.{arith}
use Rattle.std.proofs.Common.{min, take, drop, ⊎_elim}
use Rattle.std.proofs.lemmas.Bool.{cases_lt}
use Rattle.std.proofs.lemmas.List.{drop_more, length-append, take-append-le, nil_from_length}
use Rattle.std.proofs.lemmas.List.Folds.{prefix_len-append}
use Rattle.std.proofs.Math.Seq.{drop-append_seam, take-length}
use Rattle.std.specs.Cmp.Lexicographic.{pointwise}
use Rattle.std.specs.List.{IsFirstMatchOrLen}
use Rattle.std.specs.Prelude.{nat_eq}
use lib.ListN.{length, get_or, drop_of_length-le}
use Rattle.console.specs.Words.{belongs, leading, first, lines}
use Rattle.console.specs.declared.words.Run.TheVariants as run
use Rattle.std.proofs.lemmas.List.Sums.{prefix_len-le-length, prefix_len_passes, prefix_len_stops, position_or_len_is}
use Rattle.units.proofs.Every.{both}
use Rattle.console.proofs.WordLaws.{lines_first}
use Rattle.netlist.specs.Draft.{blank_draft, fault_of, with_line}
use Rattle.netlist.specs.Kept.{header_kept, kept_draft, KeptOf, Right}
use Rattle.netlist.specs.Text.{SaysLine}
use Rattle.netlist.specs.Answer.{Answer, refusal_of, at_end, Answered, ended, unread, repeated, beyond, passed}
use Rattle.netlist.specs.declared.draft.Draft.{Draft}
use Rattle.netlist.specs.declared.draft.Fault.{Fault}
use Rattle.netlist.specs.declared.draft.Fault.TheVariants as fault
use Rattle.netlist.specs.declared.said.Line.{Line}
use Rattle.netlist.specs.declared.said.Line.TheVariants as line
use Rattle.netlist.specs.declared.reader.Refusal.TheVariants.{Grammar, Value}
use Rattle.netlist.proofs.KeptCurves.{says_tidy}
use Rattle.netlist.proofs.KeptDrafts.{blank_kept, Tidy, tidy_blank, tidy_line, said_kept, fault_kept}
use Rattle.netlist.proofs.KeptJudged.{end_kept}

-- ---- a faulty line, and one that is not

module _ (here : List ℕ) (others : List (List ℕ)) (n : ℕ) (d : Draft) (x : Line) (right : Right (SaysLine here) x) where
  -- the fault is that of the line as it was said
  same_fault : (k : KeptOf (SaysLine here) x) → fault_of (kept_draft d) x ≡ fault_of d k.whole
  same_fault k = ap (λ (y : Line). fault_of (kept_draft d) y) k.kept ∙ fault_kept d k.whole

  pub faulty_grammar : fault_of (kept_draft d) x ≡ Some fault.Grammar → Answered (here ∷ others) n d (Err (Grammar n))
  faulty_grammar e = go x right (λ k. repeated k.whole k.meant (sym (same_fault k) ∙ e))
    where
      go : (l : Line) → Right (SaysLine here) l → (KeptOf (SaysLine here) l → Answered (here ∷ others) n d (Err (Grammar n))) → Answered (here ∷ others) n d (Err (Grammar n))
      go line.Broken r again = unread r
      go line.Empty r again = again r
      go line.Outside r again = again r
      go (line.Part p) r again = again r
      go (line.Setting field m) r again = again r
      go (line.Curve c) r again = again r

  -- a line with any other fault, or none, says something
  says : (l : Line) → (fault_of (kept_draft d) l ≡ Some fault.Grammar → ⊥) → Right (SaysLine here) l → KeptOf (SaysLine here) l
  unfolding fault_of
  says line.Broken h r = absurd (h refl)
  says line.Empty h r = r
  says line.Outside h r = r
  says (line.Part p) h r = r
  says (line.Setting field m) h r = r
  says (line.Curve c) h r = r

  pub faulty_value : fault_of (kept_draft d) x ≡ Some fault.Value → Answered (here ∷ others) n d (Err (Value n))
  faulty_value e =
      let k = says x (λ g. let z : ◌≡◌ {A = ℕ} 0 1 = cc in omega arith) right in
      beyond k.whole k.meant (sym (same_fault k) ∙ e)

  pub faultless : fault_of (kept_draft d) x ≡ None → KeptOf (SaysLine here) x
  faultless e = says x (λ g. let z : ◌≡◌ {A = ℕ} 0 1 = cc in omega arith) right

-- ---- a text cut after its first line feed

-- the piece up to the first line feed and with it, or the whole of a text that has none, and what comes after it
module _ (text piece after : List ℕ) (i : ℕ) (joined : text ≡ piece ++ after) (long : length piece ≡ min (i + 1) (length text)) (there : IsFirstMatchOrLen (λ b. eqb b 10) text i) where
  lengths : length text ≡ length piece + length after
  lengths = ap length joined ∙ length-append piece after

  -- where the first line ends, and the piece's
  ends : leading (belongs run.Line) text ≡ min i (length text)
  ends =
      position_or_len_is (λ b. eqb b 10) text (min i (length text)) 0 (omega arith) (λ k l. there.0 k 0 (omega arith) (omega arith))
      (λ l. let same : min i (length text) ≡ i = omega arith in rw same (there.1 (omega arith) 0))

  ends_so : leading (belongs run.Line) piece ≡ min i (length text)
  ends_so =
      let n = leading (belongs run.Line) piece in
      let both = sym ends ∙ ap (leading (belongs run.Line)) joined ∙ prefix_len-append (belongs run.Line) piece after in
      ⊎_elim
      (λ (l : n < length piece). sym (both ∙ ap (λ t. cond t (length piece + leading (belongs run.Line) after) n) (ne_eqb n (length piece) (λ e. omega (arith, e)))))
      (λ (l : length piece ≤ n).
      let whole : n ≡ length piece = omega (arith, l, prefix_len-le-length (belongs run.Line) piece) in
      let far = both ∙ ap (λ t. cond t (length piece + leading (belongs run.Line) after) n) (eq-eqb n (length piece) whole) in
      omega (arith, whole, far, long, lengths))
      (cases_lt n (length piece))

  same_line : first run.Line piece ≡ first run.Line text
  same_line =
      ap (λ n. take n piece) (ends_so ∙ sym ends)
      ∙ sym (take-append-le (leading (belongs run.Line) text) piece after (omega (arith, ends, long)))
      ∙ ap (take (leading (belongs run.Line) text)) (sym joined)

  rest_after : drop (suc (leading (belongs run.Line) text)) text ≡ after
  rest_after =
      ⊎_elim
      (λ (l : i < length text).
      let at : suc (leading (belongs run.Line) text) ≡ length piece = omega (arith, ends, long, l) in
      ap (λ n. drop n text) at ∙ ap (drop (length piece)) joined ∙ drop-append_seam piece after)
      (λ (l : length text ≤ i).
      drop_of_length-le text {i = suc (leading (belongs run.Line) text)} (omega (arith, ends, l))
      ∙ sym (nil_from_length after (omega (arith, long, lengths, l))))
      (cases_lt i (length text))

  -- so a line feed can only be its last byte
  pub piece_ends : length piece ≤ suc (leading (belongs run.Line) piece)
  piece_ends = omega (arith, ends_so, long)

  -- and the text's lines are that of the piece and those after it
  pub piece_first : 0 < length text → (lines text ≡ first run.Line piece ∷ lines after) × (length after < length text)
  piece_first h = (lines_first text (λ e. omega (arith, e, h)) ∙ rw (rest_after, same_line), omega (arith, h, lengths, long))

-- ---- a piece without the line feed that ends it

-- what stands from the last byte on
last : (piece : List ℕ) (n : ℕ) → suc n ≡ length piece → drop n piece ≡ get_or piece n 0 ∷ []
last piece n e = drop_more piece n 0 (omega (arith, e)) ∙ ap (λ (t : List ℕ). get_or piece n 0 ∷ t) (drop_of_length-le piece {i = n + 1} (omega (arith, e)))

-- no byte is both a line feed and none
clash : (fed : Bool) → not fed ≡ false → fed && true ≡ false → ⊥
clash true s e = true≢false e
clash false s e = true≢false s

module _ (piece : List ℕ) (ends : length piece ≤ suc (leading (belongs run.Line) piece)) where
  pub feed_off : pointwise nat_eq (drop (length piece - 1) piece) (10 ∷ []) ≡ true → take (length piece - 1) piece ≡ first run.Line piece
  feed_off e =
      let there = leading (belongs run.Line) piece in
      ⊎_elim
      (λ (l : there < length piece). ap (λ n. take n piece) (omega (arith, ends, l)))
      (λ (l : length piece ≤ there).
      ⊎_elim
      (λ (none : length piece < 1). ap (λ n. take n piece) (omega (arith, none, prefix_len-le-length (belongs run.Line) piece)))
      (λ (some : 1 ≤ length piece).
      let k = length piece - 1 in
      let fed : eqb (get_or piece k 0) 10 ≡ true = (both {a = eqb (get_or piece k 0) 10} (rw (last piece k (omega (arith, some))) at e)).0 in
      let passes : not (eqb (get_or piece k 0) 10) ≡ true = prefix_len_passes (belongs run.Line) piece k 0 (omega (arith, l, some)) in
      absurd (false≢true (rw fed at passes)))
      (cases_lt (length piece) 1))
      (cases_lt there (length piece))

  pub feed_none : pointwise nat_eq (drop (length piece - 1) piece) (10 ∷ []) ≡ false → piece ≡ first run.Line piece
  feed_none e =
      let there = leading (belongs run.Line) piece in
      ⊎_elim
      (λ (l : there < length piece).
      let at : length piece - 1 ≡ there = omega (arith, ends, l) in
      absurd (clash (eqb (get_or piece there 0) 10) (prefix_len_stops (belongs run.Line) piece 0 l) (rw (at, last piece there (omega (arith, ends, l))) at e)))
      (λ (l : length piece ≤ there).
      let whole : there ≡ length piece = omega (arith, l, prefix_len-le-length (belongs run.Line) piece) in
      sym (ap (λ n. take n piece) whole ∙ take-length piece))
      (cases_lt there (length piece))

lines_none : (text : List ℕ) → length text ≡ 0 → lines text ≡ []
unfolding lines
lines_none text h = rw (nil_from_length text h)

-- ---- how far the reading has come

-- line n is the first of those left, after lines that made a draft, of which one is kept: whatever is answered from there on is answered for the text
pub record Reached (text : List ℕ) (n : ℕ) (draft : Draft) (left : List ℕ) : Type 0 where
  pub few : n + length left ≤ length text + 1
  pub whole : Draft
  pub tidy : Tidy whole.parts
  pub kept : draft ≡ kept_draft whole
  pub onward : {a : Answer} → Answered (lines left) n whole a → Answered (lines text) 1 blank_draft a

pub reached_first : (text : List ℕ) → Reached text 1 blank_draft text
reached_first text = record {
  few = omega arith;
  whole = blank_draft;
  tidy = tidy_blank;
  kept = sym blank_kept;
  onward = λ rest. rest;
}

module _ (text : List ℕ) (n : ℕ) (draft : Draft) (left : List ℕ) (reached : Reached text n draft left) where
  pub reached_last : length left ≡ 0 → Answered (lines text) 1 blank_draft (at_end n draft)
  reached_last h = rw (reached.kept, end_kept n reached.whole reached.tidy) (reached.onward (rw (lines_none left h) ended))

  module _ (here : List ℕ) (after : List ℕ) (cut : lines left ≡ here ∷ lines after) (x : Line) (right : Right (SaysLine here) x) where
    reached_grammar : fault_of draft x ≡ Some fault.Grammar → Answered (lines text) 1 blank_draft (Err (Grammar n))
    reached_grammar e = reached.onward (rw cut (faulty_grammar here _ n reached.whole x right (rw reached.kept at e)))

    reached_value : fault_of draft x ≡ Some fault.Value → Answered (lines text) 1 blank_draft (Err (Value n))
    reached_value e = reached.onward (rw cut (faulty_value here _ n reached.whole x right (rw reached.kept at e)))

    pub reached_fault : (f : Fault) → fault_of draft x ≡ Some f → Answered (lines text) 1 blank_draft (Err (refusal_of f n))
    reached_fault fault.Grammar = reached_grammar
    reached_fault fault.Value = reached_value

    pub reached_more : length after < length left → fault_of draft x ≡ None → Reached text (n + 1) (header_kept (with_line draft x)) after
    reached_more shorter e =
        let f = rw reached.kept at e in
        let k = faultless here [] n reached.whole x right f in
        record {
          few = omega (arith, reached.few, shorter);
          whole = with_line reached.whole k.whole;
          tidy = tidy_line reached.whole reached.tidy k.whole (says_tidy (first run.Said here) k.whole k.meant);
          kept = said_kept reached.whole draft x k.whole reached.tidy reached.kept k.kept;
          onward = λ rest. reached.onward (rw cut (passed k.whole k.meant (sym (same_fault here [] n reached.whole x right k) ∙ f) rest));
        }
