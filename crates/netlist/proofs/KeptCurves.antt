-- What is kept of numbers, of arrays, and of a curve that is read from the left: to keep each number as it is read is to read them all and keep the curve
-- that they make. Assumes nothing.
use mathlib.Core.Path.{◌≡◌, refl, sym}
use mathlib.Core.Bool.{Bool, true, false, cond}
use mathlib.Core.List.{List, [], ◌∷◌, map}
use mathlib.Core.Logic.{⊎_elim}
use Prim.Native.Nat.{ℕ, zero, suc, ◌≤◌, ◌<◌, min, max}
use native.Mathlib.Omega.{arith}
use lib.Dec.{eqb}
use lib.IntN.{ℤ, pos}
use lib.ListN.{length, get_or, set, replicate, length-set, length-map}
use lib.Seq.{set_out, get_or-set_other}
use Rattle.units.specs.Float.{signed}
use Rattle.units.proofs.Integers.{decide_n}
use Rattle.console.specs.Number.{worth_at}
use Rattle.console.specs.declared.words.Run.TheVariants.{Digits}
use Rattle.network.specs.Network.{reading}
use Rattle.image.specs.Parts.{no_curve}
use Rattle.network.specs.Kind.{diode_kind, number_of}
use Rattle.network.specs.declared.kind.Kind.{Kind}
use Rattle.network.specs.declared.kind.Kind.TheVariants as kinds
use Rattle.std.specs.Prelude.{Some, None}
use Rattle.ohms.specs.Worth.{Worth, stage}
use Rattle.image.specs.declared.parts.Curve.{Curve}
use Rattle.netlist.specs.Curve.{next, ends, breakpoint_at, stretch_stands, after_stretch, with_stretch, with_slope, Stretches, last, more}
use Rattle.netlist.specs.Kept.{most_byte, byte, word, size, kept_breakpoint, kept_count, kept_curve, KeptOf}
use Rattle.netlist.specs.Line.{opener_of, value_place, element_line, plain_line, CurveLine, SaysBy, Says}
use Rattle.netlist.specs.declared.line.Opener.{Opener}
use Rattle.netlist.specs.declared.line.Opener.TheVariants.{Empty, Resistor, Plain, Setting, Curves, Other}
use Rattle.netlist.specs.declared.said.Line.TheVariants as line
use Rattle.netlist.specs.declared.said.Line.{Line}
use Rattle.netlist.proofs.PlaceLaws.{Drawing, drawing_more, drawing_last}

-- ---- numbers

-- one that fits is kept as it is, and so is one that was kept
pub fits : (n most : ℕ) → n ≤ most → min n most ≡ n
fits n most h = omega arith

pub twice : (n most : ℕ) → min (min n most) most ≡ min n most
twice n most = omega arith

-- the higher of two, and of three
pub higher : (a b most : ℕ) → min (max a b) most ≡ max (min a most) (min b most)
higher a b most = omega arith

pub max_kept : (a b c : ℕ) → byte (max (byte a) (max (byte b) (byte c))) ≡ byte (max a (max b c))
max_kept a b c = simp (higher, twice)

pub max_word : (a n : ℕ) → byte (max (byte a) (word n)) ≡ byte (max a n)
max_word a n =
    let m : byte (word n) ≡ byte n = omega arith in
    simp (higher, twice, m)

-- a breakpoint by its sign and size
pub kept_signed : (negative : Bool) (n : ℕ) → kept_breakpoint (signed negative n) ≡ signed negative (size n)
kept_signed true zero = refl
kept_signed true (suc n) = refl
kept_signed false n = refl

-- ---- arrays

map-set {ℓ} : {A B : Type ℓ} (f : A → B) (l : List A) (i : ℕ) (v : A) → map f (set l i v) ≡ set (map f l) i (f v)
map-set f [] i v = refl
map-set f (a ∷ l) zero v = refl
map-set f (a ∷ l) (suc i) v = rw (map-set f l i v)

-- a store at a place that is kept too, where the array has no place as far on as the greatest byte
pub store_kept {ℓ} : {A B : Type ℓ} (f : A → B) (l : List A) (i : ℕ) (v : A) → length l ≤ most_byte → map f (set l i v) ≡ set (map f l) (byte i) (f v)
store_kept f l i v h =
    ⊎_elim (λ (k : most_byte ≤ i). rw (set_out l i v (omega arith), set_out (map f l) (byte i) (f v) (omega (arith, length-map l f))))
    (λ (k : i < most_byte). rw (fits i most_byte (omega arith)) (map-set f l i v))
    (decide_n most_byte i)

-- an array of nothing has nothing at any place
pub none-there {ℓ} : {A : Type ℓ} (n j : ℕ) (a : A) → get_or (replicate n a) j a ≡ a
none-there zero j a = refl
none-there (suc n) zero a = refl
none-there (suc n) (suc j) a = none-there n j a

-- what holds of what is stored and of every place holds of every place after the store
pub store-each {ℓ} : {A : Type ℓ} (P : A → Type 0) (l : List A) (i : ℕ) (v d : A) → P v → ((j : ℕ) → P (get_or l j d)) → (j : ℕ) → P (get_or (set l i v) j d)
store-each P [] i v d p each j = each j
store-each P (a ∷ l) zero v d p each zero = p
store-each P (a ∷ l) zero v d p each (suc j) = each (suc j)
store-each P (a ∷ l) (suc i) v d p each zero = each zero
store-each P (a ∷ l) (suc i) v d p each (suc j) = store-each P l i v d p (λ k. each (suc k)) j

-- ---- curves

pub none_kept : kept_curve no_curve ≡ no_curve
unfolding kept_curve
none_kept = refl

-- the arrays have no more places than a byte can count, and none past the count of the curve has a number that is too large
pub record TidyCurve (c : Curve) : Type 0 where
  pub few_slopes : length c.slopes ≤ most_byte
  pub few_breakpoints : length c.breakpoints ≤ most_byte
  pub slopes_past : (j : ℕ) → c.count < j → word (get_or c.slopes j 0) ≡ get_or c.slopes j 0
  pub breakpoints_past : (j : ℕ) → c.count ≤ j → kept_breakpoint (reading c.breakpoints j) ≡ reading c.breakpoints j

pub tidy_none : TidyCurve no_curve
tidy_none = record {
  few_slopes = omega arith;
  few_breakpoints = omega arith;
  slopes_past = λ j h. rw (none-there {A = ℕ} 17 j 0);
  breakpoints_past = λ j h. rw (none-there 16 j (pos 0));
}

module _ (c : Curve) (tidy : TidyCurve c) (slope : ℕ) where
  tidy_stretch : (breakpoint : ℤ) → TidyCurve (with_stretch c slope breakpoint)
  unfolding with_stretch
  tidy_stretch breakpoint = record {
    few_slopes = rw length-set tidy.few_slopes;
    few_breakpoints = rw length-set tidy.few_breakpoints;
    slopes_past = λ j h. rw (get_or-set_other c.slopes c.count j slope 0 (λ e. omega arith)) (tidy.slopes_past j (omega arith));
    breakpoints_past = λ j h. rw (get_or-set_other c.breakpoints c.count j breakpoint (pos 0) (λ e. omega arith)) (tidy.breakpoints_past j (omega arith));
  }

  tidy_slope : TidyCurve (with_slope c slope)
  unfolding with_slope
  tidy_slope = record {
    few_slopes = rw length-set tidy.few_slopes;
    few_breakpoints = tidy.few_breakpoints;
    slopes_past = λ j h. rw (get_or-set_other c.slopes c.count j slope 0 (λ e. omega arith)) (tidy.slopes_past j h);
    breakpoints_past = tidy.breakpoints_past;
  }

  stretch_kept : (breakpoint : ℤ) → kept_curve (with_stretch c slope breakpoint) ≡ kept_count (with_stretch (kept_curve c) (word slope) (kept_breakpoint breakpoint))
  unfolding kept_curve kept_count with_stretch
  stretch_kept breakpoint =
      let n : byte (suc (byte c.count)) ≡ byte (suc c.count) = omega arith in
      rw (n, store_kept word c.slopes c.count slope tidy.few_slopes, store_kept kept_breakpoint c.breakpoints c.count breakpoint tidy.few_breakpoints)

  slope_kept : kept_curve (with_slope c slope) ≡ with_slope (kept_curve c) (word slope)
  unfolding kept_curve with_slope
  slope_kept = rw (store_kept word c.slopes c.count slope tidy.few_slopes)

-- so is every curve that a line says
stretches_tidy : {s : List ℕ} {i : ℕ} {c whole : Curve} → Stretches s i c whole → TidyCurve c → TidyCurve whole
stretches_tidy (last {c = c} e) t = tidy_slope c t _
stretches_tidy (more {c = c} e rest) t = stretches_tidy rest (tidy_stretch c t _ _)

abbrev pub TidyLine : Line → Type 0
TidyLine line.Broken = Unit {0}
TidyLine line.Empty = Unit {0}
TidyLine line.Outside = Unit {0}
TidyLine (line.Part e) = Unit {0}
TidyLine (line.Setting field n) = Unit {0}
TidyLine (line.Curve c) = TidyCurve c

element_tidy : (kind : Kind) (curve : ℕ) (s : List ℕ) (w : Worth) → TidyLine (element_line kind curve s w)
element_tidy kind curve s (Some v) = tt
element_tidy kind curve s None = tt

plain_tidy : (kind : Kind) (s : List ℕ) → TidyLine (plain_line kind s)
plain_tidy kind s = go (eqb (number_of kind) diode_kind)
  where
    go : (t : Bool) → TidyLine (cond t (element_line kind (worth_at s (value_place s)) s (Some 0)) (element_line kind 0 s (stage (worth_at s (value_place s)))))
    go true = element_tidy kind (worth_at s (value_place s)) s (Some 0)
    go false = element_tidy kind 0 s (stage (worth_at s (value_place s)))

says_by_tidy : (o : Opener) (s : List ℕ) (x : Line) → SaysBy o s x → TidyLine x
says_by_tidy Empty s x a = rw a tt
says_by_tidy Resistor s x a = rw a.says (element_tidy kinds.Resistor 0 s a.worth)
says_by_tidy (Plain kind) s x a = rw a.says (plain_tidy kind s)
says_by_tidy (Setting field) s x a = rw a.says tt
says_by_tidy Curves s x a = rw a.says (stretches_tidy a.numbers tidy_none)
says_by_tidy Other s x a = absurd a

pub says_tidy : (s : List ℕ) (x : Line) → Says s x → TidyLine x
says_tidy s = says_by_tidy (opener_of s) s

-- what is kept of a curve so far, which goes on at a place
pub record Drawn (s : List ℕ) (from at : ℕ) (curve : Curve) : Type 0 where
  pub whole : Curve
  pub kept : curve ≡ kept_curve whole
  pub tidy : TidyCurve whole
  pub drawing : Drawing s from at whole

pub drawn_first : (s : List ℕ) (from : ℕ) → Drawn s from from no_curve
drawn_first s from = record { whole = no_curve; kept = sym none_kept; tidy = tidy_none; drawing = record { onward = λ r. r; back = λ r. r } }

module _ (s : List ℕ) (from at : ℕ) (curve : Curve) (drawn : Drawn s from at curve) where
  pub drawn_more : stretch_stands s at ≡ true → Drawn s from (after_stretch s at) (kept_count (with_stretch curve (word (worth_at s at)) (kept_breakpoint (breakpoint_at s (next Digits s at)))))
  drawn_more e = record {
    whole = with_stretch drawn.whole (worth_at s at) (breakpoint_at s (next Digits s at));
    kept = rw drawn.kept (sym (stretch_kept drawn.whole drawn.tidy (worth_at s at) (breakpoint_at s (next Digits s at))));
    tidy = tidy_stretch drawn.whole drawn.tidy (worth_at s at) (breakpoint_at s (next Digits s at));
    drawing = drawing_more s from at drawn.whole drawn.drawing e;
  }

  pub drawn_last : ends s at ≡ true → KeptOf (CurveLine s from) (line.Curve (with_slope curve (word (worth_at s at))))
  drawn_last e = record {
    whole = line.Curve (with_slope drawn.whole (worth_at s at));
    meant = record { curve = with_slope drawn.whole (worth_at s at); numbers = drawing_last s from at drawn.whole drawn.drawing e; says = refl };
    kept = rw (drawn.kept, slope_kept drawn.whole drawn.tidy (worth_at s at));
  }
