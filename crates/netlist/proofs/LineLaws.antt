-- What a line begins with, what its readers may answer, and that it has one reading. Assumes nothing.
use mathlib.Core.Path.{◌≡◌, refl, sym, ◌∙◌, ap}
use mathlib.Core.Bool.{Bool, true, false, cond, false≢true}
use mathlib.Core.List.{List, [], ◌∷◌}
use Prim.Native.Nat.{ℕ}
use native.Mathlib.Omega.{arith}
use lib.Dec.{eqb}
use lib.ListN.{length}
use borrow.Author.Tests.{eq-eqb, eqb-true}
use Rattle.units.proofs.Every.{both}
use Rattle.console.specs.Number.{worth_at}
use Rattle.ohms.proofs.Promise.{value_once}
use Rattle.network.specs.Kind.{diode_kind, number_of}
use Rattle.network.specs.declared.kind.Kind.{Kind}
use Rattle.network.specs.declared.kind.Kind.TheVariants as kinds
use Rattle.image.specs.declared.parts.Curve.{Curve}
use Rattle.std.specs.Prelude.{Some, None}
use Rattle.ohms.specs.Worth.{Worth, stage}
use Rattle.netlist.specs.Kept.{kept_line, Right}
use Rattle.netlist.specs.Line.{same, value_place, opener_of, element_line, plain_line, SaysBy, Says}
use Rattle.netlist.specs.declared.line.Opener.{Opener}
use Rattle.netlist.specs.declared.line.Opener.TheVariants.{Empty, Resistor, Plain, Setting, Curves, Other}
use Rattle.netlist.specs.declared.said.Line.{Line}
use Rattle.netlist.specs.declared.said.Line.TheVariants as line
use Rattle.netlist.proofs.PlaceLaws.{stretches_once}

-- ---- the same bytes

-- two tests of the same thing
pub agree : (r t : Bool) → (r ≡ true → t ≡ true) → (t ≡ true → r ≡ true) → r ≡ t
agree true t f g = sym (f refl)
agree false true f g = g refl
agree false false f g = refl

pub same_self : (s : List ℕ) → same s s ≡ true
unfolding same
same_self [] = refl
same_self (b ∷ s) = rw (eq-eqb b b refl) (same_self s)

pub same_is : (s t : List ℕ) → same s t ≡ true → s ≡ t
unfolding same
same_is [] [] e = refl
same_is [] (b ∷ t) e = absurd (false≢true e)
same_is (a ∷ s) [] e = absurd (false≢true e)
same_is (a ∷ s) (b ∷ t) e =
    let h = both {a = eqb a b} {b = same s t} e in
    rw (eqb-true a b h.0, same_is s t h.1)

-- ---- right answers

-- what is said is right, as it is kept
pub right_said : (Meant : Line → Type 0) (x : Line) → (x ≡ line.Broken → ⊥) → Meant x → Right Meant (kept_line x)
right_said Meant line.Broken h m = absurd (h refl)
right_said Meant line.Empty h m = record { whole = line.Empty; meant = m; kept = refl }
right_said Meant line.Outside h m = record { whole = line.Outside; meant = m; kept = refl }
right_said Meant (line.Part e) h m = record { whole = line.Part e; meant = m; kept = refl }
right_said Meant (line.Setting field n) h m = record { whole = line.Setting field n; meant = m; kept = refl }
right_said Meant (line.Curve c) h m = record { whole = line.Curve c; meant = m; kept = refl }

-- a line with a value is not broken
pub element_whole : (kind : Kind) (curve : ℕ) (s : List ℕ) (w : Worth) → element_line kind curve s w ≡ line.Broken → ⊥
element_whole kind curve s (Some v) e = let z : ◌≡◌ {A = ℕ} 0 1 = cc in omega arith
element_whole kind curve s None e = let z : ◌≡◌ {A = ℕ} 0 1 = cc in omega arith

pub plain_whole : (kind : Kind) (s : List ℕ) → plain_line kind s ≡ line.Broken → ⊥
plain_whole kind s = go (eqb (number_of kind) diode_kind)
  where
    go : (t : Bool) → cond t (element_line kind (worth_at s (value_place s)) s (Some 0)) (element_line kind 0 s (stage (worth_at s (value_place s)))) ≡ line.Broken → ⊥
    go true = element_whole kind (worth_at s (value_place s)) s (Some 0)
    go false = element_whole kind 0 s (stage (worth_at s (value_place s)))

-- every kind but the diode's goes by a stage
pub other_kind : (kind : Kind) → (kind ≡ kinds.Diode → ⊥) → eqb (number_of kind) diode_kind ≡ false
other_kind kinds.Resistor h = refl
other_kind kinds.Capacitor h = refl
other_kind kinds.Inductor h = refl
other_kind kinds.Diode h = absurd (h refl)

-- ---- one reading

-- by what it begins with
pub says_by_once : (o : Opener) (s : List ℕ) (x y : Line) → SaysBy o s x → SaysBy o s y → x ≡ y
says_by_once Empty s x y a b = a ∙ sym b
says_by_once Resistor s x y a b =
    let same = value_once s (value_place s) (length s) (length s) a.worth b.worth a.value b.value in
    a.says ∙ ap (λ (w : Worth). element_line kinds.Resistor 0 s w) same.1 ∙ sym b.says
says_by_once (Plain kind) s x y a b = a.says ∙ sym b.says
says_by_once (Setting field) s x y a b = a.says ∙ sym b.says
says_by_once Curves s x y a b = a.says ∙ ap (λ (c : Curve). line.Curve c) (stretches_once a.numbers b.numbers) ∙ sym b.says
says_by_once Other s x y a b = absurd a

pub says_once : (s : List ℕ) (x y : Line) → Says s x → Says s y → x ≡ y
says_once s = says_by_once (opener_of s) s
