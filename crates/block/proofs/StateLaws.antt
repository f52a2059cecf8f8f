-- What the tests and the state's bytes rest on. Assumes nothing.
use mathlib.Core.Path.{◌≡◌, refl, sym, ◌∙◌, ap}
use mathlib.Core.Bool.{Bool, true, false, ◌||◌, cond}
use mathlib.Core.List.{List}
use mathlib.Core.Logic.{⊎_elim}
use Prim.Native.Nat.{ℕ, zero, suc, ◌+◌, ◌*◌, ◌≤◌, ◌<◌}
use native.Mathlib.Omega.{arith}
use native.Mathlib.Numerals.{add-one}
use lib.Dec.{eqb}
use lib.IntN.{ℤ, pos}
use lib.ListN.{length, set, length-set}
use lib.Seq.{ext_get_or, get_or-set_same, get_or-set_other}
use borrow.Author.Tests.{eq-eqb}
use mir.Syntax.{w64}
use mir.Val.{to_z, of_z}
use Rattle.units.specs.Bytes.{little_endian, written}
use Rattle.units.specs.Table.{tabulate}
use Rattle.units.proofs.Integers.{decide_n}
use Rattle.units.proofs.LittleEndian.{written_length}
use Rattle.network.specs.Network.{Store, nothing, capacitor, inductor, reading}
use Rattle.network.specs.Kind.{capacitor_kind, inductor_kind, stores, store_of}
use Rattle.units.proofs.Tables.{tabulate-length, tabulate-at}
use Rattle.circuit.specs.Board.{kind_on, branch_on, network_on}
use Rattle.block.specs.Block.{Decides, LegalAt, StateLegal, places}
use Rattle.block.specs.Call.{state_in, bytes_with}
use Rattle.block.specs.Playing.{state_of}

-- a test decides a fact if it gives it when passed and refutes it when failed
pub decides : {P : Type 0} (t : Bool) → (t ≡ true → P) → (t ≡ false → P → ⊥) → Decides t P
decides true a b = a refl
decides false a b = b refl

-- .. and that is all it says
pub if_passed : {P : Type 0} (t : Bool) → Decides t P → t ≡ true → P
if_passed t d e = rw e at d

pub if_failed : {P : Type 0} (t : Bool) → Decides t P → t ≡ false → P → ⊥
if_failed t d e = rw e at d

-- ---- stored currents from bytes, one after the other

-- the first n of the stored currents in the state's bytes
pub record ReadTo (state : List ℕ) (n : ℕ) (x : List ℤ) : Type 0 where
  pub long : length x ≡ places
  pub at : (j : ℕ) → j < n → reading x j ≡ to_z w64 (little_endian 8 state (8 * j))

pub read_more : (state : List ℕ) (n : ℕ) (x : List ℤ) (y : ℤ) → n < places → y ≡ to_z w64 (little_endian 8 state (8 * n)) → ReadTo state n x → ReadTo state (n + 1) (set x n y)
read_more state n x y h e r = record {
  long = simp length-set r.long;
  at = λ j l. ⊎_elim
      (λ (m : n ≤ j). let i : j ≡ n = omega arith in rw i (get_or-set_same x n y (pos 0) (omega (arith, r.long)) ∙ e))
      (λ (m : j < n). get_or-set_other x n j y (pos 0) (λ i. omega arith) ∙ r.at j m) (decide_n n j);
}

pub read_all : (state : List ℕ) (x : List ℤ) → length state ≡ 256 → ReadTo state places x → x ≡ (state_in state).currents
unfolding state_in
read_all state x l r =
    let f : ℕ → ℤ = λ j. to_z w64 (little_endian 8 state (8 * j)) in
    rw (eq-eqb (length state) 256 l)
    (ext_get_or (pos 0) x (tabulate f places) (r.long ∙ sym (tabulate-length f places)) (λ i h. r.at i (omega (arith, r.long)) ∙ sym (tabulate-at f places i (pos 0) (omega (arith, r.long)))))

-- ---- and into bytes

pub write_none : (state : List ℕ) (x : List ℤ) → state ≡ bytes_with state x 0
unfolding bytes_with
write_none state x = refl

pub write_more : (state : List ℕ) (x : List ℤ) (n : ℕ) → written 8 (bytes_with state x n) (8 * n) (of_z w64 (reading x n)) ≡ bytes_with state x (n + 1)
unfolding bytes_with
write_more state x n = rw add-one

pub write_length : (state : List ℕ) (x : List ℤ) (n : ℕ) → length (bytes_with state x n) ≡ length state
unfolding bytes_with
write_length state x zero = refl
write_length state x (suc n) = written_length 8 (bytes_with state x n) (8 * n) (of_z w64 (reading x n)) ∙ write_length state x n

-- ---- legal stored currents

-- an element stores by its kind
code : Store → ℕ
code nothing = 0
code capacitor = 1
code inductor = 2

-- one that stores nothing has no store, and one that has none stores nothing
pub no_store : (kind : ℕ) → stores kind ≡ false → store_of kind ≡ nothing
no_store kind = go (eqb kind capacitor_kind) (eqb kind inductor_kind)
  where
    go : (a b : Bool) → (a || b) ≡ false → cond a capacitor (cond b inductor nothing) ≡ nothing
    go true b e = let z : ◌≡◌ {A = ℕ} 0 1 = cc in absurd (omega arith)
    go false true e = let z : ◌≡◌ {A = ℕ} 0 1 = cc in absurd (omega arith)
    go false false e = refl

pub some_store : (kind : ℕ) → stores kind ≡ true → store_of kind ≡ nothing → ⊥
unfolding code
some_store kind = go (eqb kind capacitor_kind) (eqb kind inductor_kind)
  where
    go : (a b : Bool) → (a || b) ≡ true → cond a capacitor (cond b inductor nothing) ≡ nothing → ⊥
    go true b e n = omega (arith, ap code n)
    go false true e n = omega (arith, ap code n)
    go false false e n = let z : ◌≡◌ {A = ℕ} 0 1 = cc in omega arith

-- the first n stored currents are legal
abbrev pub LegalTo : List ℕ → List ℤ → ℕ → Type 0
LegalTo board x n = (j : ℕ) → j < n → LegalAt (kind_on board j) (reading x j)

module _ (board : List ℕ) (stretches x : List ℤ) where
  pub legal_all : length x ≡ places → LegalTo board x places → StateLegal (network_on board stretches) (state_of x)
  unfolding branch_on
  legal_all l h = record { long = l; kept = λ j m. (h j m).kept; zeros = λ j m. (h j m).none }

  pub legal_at : (j : ℕ) → j < places → StateLegal (network_on board stretches) (state_of x) → LegalAt (kind_on board j) (reading x j)
  unfolding branch_on
  legal_at j h s = record { kept = s.kept j h; none = s.zeros j h }
