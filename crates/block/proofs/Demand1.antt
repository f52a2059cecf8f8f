-- Demand 1, clause by clause, of what the call for C hosts promises (`Called`, which `krtovalin_block` ensures of any arguments: it requires nothing). Assumes nothing.
--
-- "Any image, state, lengths and samples get an answer or a numbered refusal from document 01. A refused image, state or length writes nothing. A sample refused in mid-block
-- leaves the earlier samples and their state standing, and every later place untouched."
use mathlib.Core.Path.{◌≡◌, refl, ◌∙◌, ap}
use mathlib.Core.List.{List}
use mathlib.Core.Logic.{inr}
use Prim.Native.Nat.{ℕ, ◌*◌, ◌≤◌, ◌<◌}
use native.Mathlib.Omega.{arith}
use native.Mathlib.Nat.{mul-le-mul_right}
use lib.IntN.{ℤ}
use lib.ListN.{length, get_or}
use mir.Syntax.{w64}
use mir.Val.{of_z}
use Rattle.units.specs.Number.{number_of}
use Rattle.units.proofs.LittleEndian.{written_else}
use Rattle.units.proofs.Numbers.{number_small}
use Rattle.network.specs.Network.{Network}
use Rattle.network.specs.Sample.{answer_of}
use Rattle.image.proofs.Opening.{refused_early}
use Rattle.block.specs.Block.{LengthsFit, Run, start, sample, state-refused, lengths-refused, sample-refused, done, Plays, image-refused, conductance-refused, plays-on}
use Rattle.block.specs.Call.{state_in, bytes_after, Called}
use Rattle.block.specs.Host.{number_in, count_in}
use Rattle.block.specs.declared.call.State.{State}
use Rattle.block.proofs.HostLaws.{late}
use Rattle.block.proofs.SampleLaws.{run_length}

-- ---- a block

-- no sample past the count was written
run_else : {N : ℕ → Network} {output : ℕ} {d : ℕ → ℕ → ℤ} {x : State} {outputs : List ℕ} {j : ℕ} {y : State} {o : List ℕ} → Run N output d x outputs j y o → (i : ℕ) → 4 * j ≤ i → get_or o i 0 ≡ get_or outputs i 0
run_else start i past = refl
run_else {output = output} (sample {j = j} {o = o} v r g l k) i past = written_else 4 o (4 * j) (of_z w64 (v output)) i (inr (omega arith)) ∙ run_else r i (omega arith)

-- what comes back of a block, as far as demand 1 speaks of it
record Kept (image : List ℕ) (x : State) (n : ℕ) (drives outputs : List ℕ) (k c : ℕ) (y : State) (o : List ℕ) : Type 0 where
  numbered : k ≤ 11
  few : c ≤ n
  small : c ≤ 4096
  complete : k ≡ 0 → c ≡ n
  long : length o ≡ length outputs
  else : (i : ℕ) → 4 * c ≤ i → get_or o i 0 ≡ get_or outputs i 0
  early : 1 ≤ k → k ≤ 8 → (c ≡ 0) × (o ≡ outputs)
  midway : 9 ≤ k → (c < n) × Plays image x c drives outputs 0 c y o

-- fewer samples fit too
fewer : {driven n drives outputs : ℕ} (j : ℕ) → j ≤ n → LengthsFit driven n drives outputs → LengthsFit driven j drives outputs
fewer {driven = driven} j h f = record { few = omega (arith, f.few); driven_enough = omega (arith, f.driven_enough, mul-le-mul_right driven h); room = omega (arith, f.room) }

module _ (image : List ℕ) (x : State) (n : ℕ) (drives outputs : List ℕ) where
  -- refused before any sample
  nothing_done : (k : ℕ) → 1 ≤ k → k ≤ 8 → Kept image x n drives outputs k 0 x outputs
  nothing_done k some early = record { numbered = omega arith; few = omega arith; small = omega arith; complete = λ e. absurd (omega arith); long = refl; else = λ i h. refl; early = λ a b. (refl, refl); midway = λ h. absurd (omega arith) }

  plays_kept : {k c : ℕ} {y : State} {o : List ℕ} → Plays image x n drives outputs k c y o → Kept image x n drives outputs k c y o
  plays_kept (image-refused {k = k} e) = let early = refused_early image k e in nothing_done (number_of k) early.0 (omega (arith, early.1))
  plays_kept (conductance-refused e f) = nothing_done 6 (omega arith) (omega arith)
  plays_kept (plays-on e t (state-refused not)) = nothing_done 7 (omega arith) (omega arith)
  plays_kept (plays-on e t (lengths-refused legal not)) = nothing_done 8 (omega arith) (omega arith)
  plays_kept (plays-on e t (sample-refused {j = j} {r = r} b h f)) = record {
    numbered = number_small (answer_of r);
    few = omega arith;
    small = omega (arith, b.fit.few);
    complete = λ none. absurd (omega (arith, f.some));
    long = run_length f.run;
    else = run_else f.run;
    early = λ some early. absurd (omega (arith, early, late r f.some));
    midway = λ late. (h, plays-on e t (done (record { legal = b.legal; fit = fewer j (omega arith) b.fit }) f.run));
  }
  plays_kept (plays-on e t (done b run)) = record {
    numbered = omega arith;
    few = omega arith;
    small = b.fit.few;
    complete = λ none. refl;
    long = run_length run;
    else = run_else run;
    early = λ some early. absurd (omega arith);
    midway = λ late. absurd (omega arith);
  }

-- ---- the call

module _ {image bytes : List ℕ} {n : ℕ} {drives outputs : List ℕ} {answer : ℕ} {bytes' outputs' : List ℕ} (called : Called image bytes n drives outputs answer bytes' outputs') where
  kept : Kept image (state_in bytes) n drives outputs called.number called.count called.after outputs'
  kept = plays_kept image (state_in bytes) n drives outputs called.plays

  -- the answer says what came back
  pub number_told : number_in answer ≡ called.number
  number_told = omega (arith, called.packed, kept.small)

  pub count_told : count_in answer ≡ called.count
  count_told = omega (arith, called.packed, kept.small)

  -- "an answer or a numbered refusal": 0 to 11, and with 0 all n samples
  pub answered : (number_in answer ≤ 11) × (count_in answer ≤ n) × (number_in answer ≡ 0 → count_in answer ≡ n)
  answered = rw (number_told, count_told) (kept.numbered, kept.few, kept.complete)

  -- "a refused image, state or length writes nothing": numbers 1 to 8
  pub nothing_written : 1 ≤ number_in answer → number_in answer ≤ 8 → (count_in answer ≡ 0) × (bytes' ≡ bytes) × (outputs' ≡ outputs)
  nothing_written some early =
      let k = kept.early (rw number_told at some) (rw number_told at early) in
      (count_told ∙ k.0, called.kept ∙ ap (bytes_after bytes called.after) k.0, k.1)

  -- "leaves the earlier samples and their state standing": what it leaves is what a call for the samples before it alone leaves, and that one is accepted
  pub earlier_stand : 9 ≤ number_in answer → (count_in answer < n) × Called image bytes (count_in answer) drives outputs (count_in answer) bytes' outputs'
  earlier_stand late =
      let m = kept.midway (rw number_told at late) in
      rw count_told (m.0, record { number = 0; count = called.count; after = called.after; plays = m.1; packed = omega arith; kept = called.kept })

  -- "every later place untouched", whatever the number
  pub later_untouched : (length outputs' ≡ length outputs) × ((i : ℕ) → 4 * count_in answer ≤ i → get_or outputs' i 0 ≡ get_or outputs i 0)
  later_untouched = (kept.long, rw count_told kept.else)
