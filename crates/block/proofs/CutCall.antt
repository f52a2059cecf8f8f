-- Blocks can be cut anywhere, as a host written in C sees it: what comes of two calls, the second with the bytes that the first left, is what comes of one. Assumes nothing.
use mathlib.Core.Path.{◌≡◌, refl, sym, ◌∙◌, ap, subst}
use mathlib.Core.List.{List, ◌++◌}
use mathlib.Core.Logic.{inl, inr, ⊎_elim}
use Prim.Native.Nat.{ℕ, zero, suc, ◌+◌, ◌*◌, ◌/◌, ◌%◌, ◌^◌, ◌≤◌, ◌<◌}
use native.Mathlib.Omega.{arith}
use native.Mathlib.Nat.{zero-add, add-zero, suc-add}
use lib.IntN.{ℤ, pos, nat_abs}
use lib.ListN.{length, get_or, set, length-set}
use lib.Seq.{get_or-set_same, ext_get_or}
use mir.Syntax.{w64}
use mir.Val.{to_z, of_z}
use borrow.Author.Tests.{eq-eqb}
use Rattle.units.specs.Bytes.{little_endian, written}
use Rattle.units.specs.Table.{tabulate}
use Rattle.units.proofs.Integers.{decide_n}
use Rattle.units.proofs.LittleEndian.{written_else, signed_read}
use Rattle.units.proofs.Machine.{fits_size}
use Rattle.units.proofs.Tables.{tabulate-length, tabulate-at}
use Rattle.network.specs.Network.{Network, reading}
use Rattle.image.specs.Meaning.{network_at}
use Rattle.image.specs.Setting.{plain}
use Rattle.block.specs.Block.{places, StateLegal, Run, start, sample, state-refused, lengths-refused, sample-refused, done, Plays, image-refused, conductance-refused, plays-on}
use Rattle.block.specs.Call.{state_size, state_in, bytes_with, bytes_after, Called}
use Rattle.block.specs.Cut.{CutFor}
use Rattle.block.specs.Host.{number_in}
use Rattle.block.specs.declared.call.State.{State}
use Rattle.block.proofs.CallLaws.{state_misfit}
use Rattle.block.proofs.Cut.{goes_on, stops, legal_after}
use Rattle.block.proofs.Demand1.{number_told}
use Rattle.block.proofs.HostLaws.{read_alike}
use Rattle.block.proofs.StateLaws.{write_length}

-- ---- the state's bytes

-- what is written over some bytes does not depend on them
written_over : (n : ℕ) (s t : List ℕ) (at v k : ℕ) → length s ≡ length t → at + n ≤ length s → at ≤ k → k < at + n → get_or (written n s at v) k 0 ≡ get_or (written n t at v) k 0
unfolding written
written_over zero s t at v k long room from to = absurd (omega arith)
written_over (suc n) s t at v k long room from to = ⊎_elim
    (λ (h : at + 1 ≤ k). written_over n (set s at (v % 256)) (set t at (v % 256)) (at + 1) (v / 256) k (length-set s at (v % 256) ∙ long ∙ sym (length-set t at (v % 256))) (omega (arith, room, length-set s at (v % 256))) h (omega arith))
    (λ (h : k < at + 1).
    let e : k ≡ at = omega arith in
    let here : (l : List ℕ) → at < length l → get_or (written n (set l at (v % 256)) (at + 1) (v / 256)) at 0 ≡ v % 256 = λ l r. written_else n (set l at (v % 256)) (at + 1) (v / 256) at (inl (omega arith)) ∙ get_or-set_same l at (v % 256) 0 r in
    rw e (here s (omega (arith, room)) ∙ sym (here t (omega (arith, room, long)))))
    (decide_n (at + 1) k)

with_else : (bytes : List ℕ) (x : List ℤ) (n i : ℕ) → 8 * n ≤ i → get_or (bytes_with bytes x n) i 0 ≡ get_or bytes i 0
unfolding bytes_with
with_else bytes x zero i h = refl
with_else bytes x (suc n) i h = written_else 8 (bytes_with bytes x n) (8 * n) (of_z w64 (reading x n)) i (inr (omega arith)) ∙ with_else bytes x n i (omega arith)

with_over : (s t : List ℕ) (x : List ℤ) (n i : ℕ) → length s ≡ length t → 8 * n ≤ length s → i < 8 * n → get_or (bytes_with s x n) i 0 ≡ get_or (bytes_with t x n) i 0
unfolding bytes_with
with_over s t x zero i long room h = absurd (omega arith)
with_over s t x (suc n) i long room h = ⊎_elim
    (λ (m : 8 * n ≤ i). written_over 8 (bytes_with s x n) (bytes_with t x n) (8 * n) (of_z w64 (reading x n)) i (write_length s x n ∙ long ∙ sym (write_length t x n)) (omega (arith, room, write_length s x n)) m (omega arith))
    (λ (m : i < 8 * n).
    let aside : (l : List ℕ) → get_or (written 8 (bytes_with l x n) (8 * n) (of_z w64 (reading x n))) i 0 ≡ get_or (bytes_with l x n) i 0 = λ l. written_else 8 (bytes_with l x n) (8 * n) (of_z w64 (reading x n)) i (inl m) in
    aside s ∙ with_over s t x n i long (omega (arith, room)) m ∙ sym (aside t))
    (decide_n (8 * n) i)

-- a state written over another leaves nothing of it
over : (bytes : List ℕ) (x y : List ℤ) → length bytes ≡ state_size → bytes_with (bytes_with bytes x places) y places ≡ bytes_with bytes y places
over bytes x y long =
    let same = write_length bytes x places in
    ext_get_or 0 (bytes_with (bytes_with bytes x places) y places) (bytes_with bytes y places) (write_length (bytes_with bytes x places) y places ∙ same ∙ sym (write_length bytes y places)) (λ i h. with_over (bytes_with bytes x places) bytes y places i same (omega (arith, same, long)) (omega (arith, h, write_length (bytes_with bytes x places) y places, same, long)))

-- what is written is read back
with_read : (bytes : List ℕ) (x : List ℤ) (n j : ℕ) → 8 * n ≤ length bytes → ((i : ℕ) → i < n → nat_abs (reading x i) ≤ 2 ^ 57) → j < n → to_z w64 (little_endian 8 (bytes_with bytes x n) (8 * j)) ≡ reading x j
unfolding bytes_with
with_read bytes x zero j room small h = absurd (omega arith)
with_read bytes x (suc n) j room small h = ⊎_elim
    (λ (m : n ≤ j). let e : j ≡ n = omega arith in rw e (signed_read w64 0 8 refl refl (bytes_with bytes x n) (8 * n) (reading x n) (fits_size (reading x n) (2 ^ 57) (small n (omega arith)) (omega arith)) (omega (arith, room, write_length bytes x n))))
    (λ (m : j < n). ap (to_z w64) (read_alike 8 (written 8 (bytes_with bytes x n) (8 * n) (of_z w64 (reading x n))) (bytes_with bytes x n) (8 * j) (λ k b. written_else 8 (bytes_with bytes x n) (8 * n) (of_z w64 (reading x n)) k (inl (omega arith)))) ∙ with_read bytes x n j (omega (arith, room)) (λ i b. small i (omega arith)) m)
    (decide_n n j)

read_back : (bytes : List ℕ) (N : Network) (y : State) → length bytes ≡ state_size → StateLegal N y → state_in (bytes_with bytes y.currents places) ≡ y
unfolding state_in
read_back bytes N y long legal =
    let whole = bytes_with bytes y.currents places in
    let f : ℕ → ℤ = λ j. to_z w64 (little_endian 8 whole (8 * j)) in
    let is : tabulate f places ≡ y.currents = ext_get_or (pos 0) (tabulate f places) y.currents (tabulate-length f places ∙ sym legal.long) (λ j h. tabulate-at f places j (pos 0) (omega (arith, h, tabulate-length f places)) ∙ with_read bytes y.currents places j (omega (arith, long)) (λ i b. legal.kept i b) (omega (arith, h, tabulate-length f places))) in
    rw (eq-eqb (length whole) state_size (write_length bytes y.currents places ∙ long)) (ap (λ (l : List ℤ). record { currents = l }) is)

-- ---- the state after a block, and what a count of 0 leaves

-- a run of no samples leaves the state
run_none : {N : ℕ → Network} {output : ℕ} {d : ℕ → ℕ → ℤ} {x : State} {outputs : List ℕ} {j : ℕ} {y : State} {o : List ℕ} → Run N output d x outputs j y o → j ≡ 0 → y ≡ x
run_none start e = refl
run_none (sample v r g l k) e = absurd (omega (arith, e))

-- what is known of the state after a block: as it was if no sample was accepted, and else legal, as the one before it
record After (x : State) (count : ℕ) (y : State) : Type 0 where
  none : count ≡ 0 → y ≡ x
  some : 0 < count → (N : Network) × StateLegal N x × StateLegal N y

untouched : (x : State) → After x 0 x
untouched x = record { none = λ e. refl; some = λ h. absurd (omega arith) }

after : {image : List ℕ} {x : State} {n : ℕ} {drives outputs : List ℕ} {k c : ℕ} {y : State} {o : List ℕ} → Plays image x n drives outputs k c y o → After x c y
after {x = x} (image-refused e) = untouched x
after {x = x} (conductance-refused e f) = untouched x
after {x = x} (plays-on e t (state-refused not)) = untouched x
after {x = x} (plays-on e t (lengths-refused legal not)) = untouched x
after {x = x} {drives = drives} {outputs = outputs} (plays-on {parts = parts} e t (sample-refused b h f)) = record { none = run_none f.run; some = λ s. (network_at parts plain, b.legal, legal_after parts drives x outputs b.legal f.run) }
after {x = x} {drives = drives} {outputs = outputs} (plays-on {parts = parts} e t (done b run)) = record { none = run_none run; some = λ s. (network_at parts plain, b.legal, legal_after parts drives x outputs b.legal run) }

-- a legal state has the length of one
state_long : (bytes : List ℕ) (N : Network) → StateLegal N (state_in bytes) → length bytes ≡ state_size
state_long bytes N legal = ⊎_elim
    (λ (a : length bytes ≤ state_size). ⊎_elim (λ (b : state_size ≤ length bytes). omega arith) (λ (b : length bytes < state_size). absurd (state_misfit bytes N (λ e. omega (arith, e)) legal)) (decide_n state_size (length bytes)))
    (λ (a : state_size < length bytes). absurd (state_misfit bytes N (λ e. omega (arith, e)) legal))
    (decide_n (length bytes) state_size)

-- the bytes that a call leaves hold the state after it
holds : (bytes : List ℕ) (c : ℕ) (y : State) → After (state_in bytes) c y → state_in (bytes_after bytes y c) ≡ y
holds bytes zero y a = sym (a.none refl)
holds bytes (suc c) y a = let l = a.some (omega arith) in read_back bytes l.0 y (state_long bytes l.0 l.1) l.2

pub state_held : {image bytes : List ℕ} {n : ℕ} {drives outputs : List ℕ} {answer : ℕ} {bytes' outputs' : List ℕ} (called : Called image bytes n drives outputs answer bytes' outputs') → state_in bytes' ≡ called.after
state_held {bytes = bytes} called = ap state_in called.kept ∙ holds bytes called.count called.after (after called.plays)

-- the bytes after two calls are those after one
twice : (bytes : List ℕ) (c₁ c₂ : ℕ) (y z : State) → After (state_in bytes) c₁ y → After y c₂ z → bytes_after (bytes_after bytes y c₁) z c₂ ≡ bytes_after bytes z (c₁ + c₂)
twice bytes zero c₂ y z a b = rw (zero-add c₂)
twice bytes (suc c₁) zero y z a b = rw (add-zero (suc c₁), b.none refl)
twice bytes (suc c₁) (suc c₂) y z a b = let l = a.some (omega arith) in rw (suc-add c₁ (suc c₂)) (over bytes y.currents z.currents (state_long bytes l.0 l.1))

-- ---- the call

module _ (image bytes : List ℕ) (n m : ℕ) (d₁ d₂ o₁ o₂ : List ℕ) (cut : CutFor image n m d₁ d₂ o₁ o₂) where
  abbrev Uncut : ℕ → List ℕ → List ℕ → Type 0
  Uncut = Called image bytes (n + m) (d₁ ++ d₂) (o₁ ++ o₂)

  -- where the first call refuses, one call for all samples answers and leaves the same
  pub call_stops : {answer : ℕ} {bytes' p : List ℕ} → 0 < number_in answer → Called image bytes n d₁ o₁ answer bytes' p → Uncut answer bytes' (p ++ o₂)
  call_stops some c = record { number = c.number; count = c.count; after = c.after; plays = stops image (state_in bytes) n m d₁ d₂ o₁ o₂ cut (rw (number_told c) at some) c.plays; packed = c.packed; kept = c.kept }

  -- where it accepts, one call for all answers with the sum of both answers, and leaves what the second leaves
  pub call_goes_on : {a₁ a₂ : ℕ} {bytes₁ bytes₂ p₁ p₂ : List ℕ} → number_in a₁ ≡ 0 → Called image bytes n d₁ o₁ a₁ bytes₁ p₁ → Called image bytes₁ m d₂ o₂ a₂ bytes₂ p₂ → Uncut (a₁ + a₂) bytes₂ (p₁ ++ p₂)
  call_goes_on {p₂ = p₂} Done-first c e =
      let none : c.number ≡ 0 = sym (number_told c) ∙ Done-first in
      let first = after c.plays in
      let plays = subst (λ (y : State). Plays image y m d₂ o₂ e.number e.count e.after p₂) (state_held c) e.plays in
      record {
        number = e.number;
        count = c.count + e.count;
        after = e.after;
        plays = goes_on image (state_in bytes) n m d₁ d₂ o₁ o₂ cut none c.plays plays;
        packed = omega (arith, c.packed, e.packed, none);
        kept = e.kept ∙ ap (λ (b : List ℕ). bytes_after b e.after e.count) c.kept ∙ twice bytes c.count e.count c.after e.after first (after plays);
      }
