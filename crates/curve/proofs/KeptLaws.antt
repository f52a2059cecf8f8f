-- Each of a line's three readings keeps the answer, whatever the lines after it tell. Assumes nothing.
use mathlib.Core.Path.{◌≡◌, refl, sym, ◌∙◌, ap}
use mathlib.Core.Bool.{Bool, true, false, cond}
use mathlib.Core.List.{List, [], ◌∷◌, ◌++◌, append-nil}
use Prim.Native.Nat.{ℕ, suc, ◌+◌, ◌≤◌, ◌<◌}
use native.Mathlib.Numerals.{add-one}
use native.Mathlib.Omega.{arith}
use lib.IntN.{ℤ}
use lib.ListN.{length, take, drop, set, length-append}
use lib.Seq.{append_snoc, take-suc-set, take_all}
use lib.Dec.{leb}
use Rattle.network.specs.Network.{breakpoint_count_limit}
use Rattle.measured.specs.Measured.{most_pairs}
use Rattle.measured.specs.declared.drawing.Refusal.TheVariants.{Pairs}
use Rattle.std.specs.Prelude.{Option, Some, None, Ok, Err}
use Rattle.image.specs.declared.parts.Curve.{Curve}
use Rattle.measured.proofs.Promise.{few, too_many}
use Rattle.console.specs.Words.{first, lines}
use Rattle.console.specs.declared.words.Run.TheVariants.{Line}
use Rattle.curve.specs.Text.{Told, told, broken, joined, line_of, told_by, answer, longest_text, curve_of}
use Rattle.curve.specs.Kept.{told_with, Reads}
use Rattle.curve.specs.declared.line.Line.TheVariants.{Empty, Pair, Other}
use Rattle.curve.specs.declared.kept.Kept.{Kept}
use Rattle.curve.proofs.TextLaws.{line_length, told_first}

-- nothing was read yet
pub start_tells : (r : Kept) → r.count ≡ 0 → (more : Told) → told_with (Some r) more ≡ more
unfolding told_with
start_tells r n (told volts amps) = rw n
start_tells r n broken = refl

-- all lines were read
pub whole_tells : (r : Kept) → told_with (Some r) (told [] []) ≡ told (take r.count r.voltages) (take r.count r.currents)
unfolding told_with
whole_tells r = rw (append-nil (take r.count r.voltages), append-nil (take r.count r.currents))

-- or something else was told
pub broken_tells : (more : Told) → told_with None more ≡ broken
unfolding told_with
broken_tells more = refl

-- an empty line
pub reads_empty : (kept : Kept) → Reads kept Empty (Some kept)
reads_empty kept more = refl

-- a line that is no pair
pub reads_other : (kept : Kept) → Reads kept Other None
unfolding told_with
reads_other kept more = refl

-- a pair that there is room for
longer : (l : List ℤ) (n : ℕ) (z : ℤ) (more : List ℤ) → n < length l → take (n + 1) (set l n z) ++ more ≡ take n l ++ (z ∷ more)
longer l n z more h = rw (add-one n, take-suc-set l n z h) (append_snoc (take n l) z more)

module _ (kept : Kept) (v i : ℤ) where
  pub reads_pair : (r : Kept) → kept.count < most_pairs → r.count ≡ kept.count + 1 → r.voltages ≡ set kept.voltages kept.count v → r.currents ≡ set kept.currents kept.count i → Reads kept (Pair v i) (Some r)
  unfolding told_with
  reads_pair r room count voltages currents more = ap answer (tells more)
    where
      tells : (more : Told) → told_with (Some r) more ≡ told_with (Some kept) (joined (Pair v i) more)
      tells (told volts amps) = rw (count, voltages, currents, longer kept.voltages kept.count v volts (omega (arith, kept.voltages_room)), longer kept.currents kept.count i amps (omega (arith, kept.currents_room)))
      tells broken = refl

  -- a pair more than a curve is made from
  much : most_pairs ≤ kept.count → (more : Told) → answer (told_with (Some kept) (joined (Pair v i) more)) ≡ Err Pairs
  unfolding told_with
  much full broken = refl
  much full (told volts amps) =
      let front = take kept.count kept.voltages in
      let all : length front ≡ most_pairs = rw (take_all kept.count kept.voltages (omega (arith, kept.voltages_room))) kept.voltages_room in
      too_many (front ++ (v ∷ volts)) (take kept.count kept.currents ++ (i ∷ amps)) (omega (arith, length-append front (v ∷ volts), all))

  pub reads_much : most_pairs ≤ kept.count → Reads kept (Pair v i) None
  reads_much full more = ap answer (broken_tells more) ∙ sym (much full more)

-- the first line of what is left was read
pub reads_first : (kept : Kept) (r : Option Kept) (rest line : List ℕ) → (length rest ≡ 0 → ⊥) → line ≡ first Line rest → Reads kept (line_of line) r → answer (told_with r (told_by (lines (drop (suc (line_length rest)) rest)))) ≡ answer (told_with (Some kept) (told_by (lines rest)))
reads_first kept r rest line some is read =
    read (told_by (lines (drop (suc (line_length rest)) rest)))
    ∙ ap (λ (t : Told). answer (told_with (Some kept) t)) (rw is (sym (told_first rest some)))

-- ---- no answer has more breakpoints than a curve may have

pub curve_few : (text : List ℕ) (c : Curve) → curve_of text ≡ Ok c → c.count ≤ breakpoint_count_limit
unfolding curve_of
curve_few text c = go (leb (length text) longest_text) (told_by (lines text))
  where
    go : (t : Bool) (all : Told) → cond t (answer all) (Err Pairs) ≡ Ok c → c.count ≤ breakpoint_count_limit
    go true (told volts amps) e = few volts amps c e
    go true broken e = absurd (cc)
    go false all e = absurd (cc)
