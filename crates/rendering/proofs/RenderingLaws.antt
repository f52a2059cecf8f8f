-- What a block's promise says of its count and lengths, and how the text goes on. Assumes nothing.
use mathlib.Core.Path.{◌≡◌, refl}
use Rattle.std.specs.Prelude.{Ok, Err}
use Rattle.units.specs.declared.number.Number.{Number}
use mathlib.Core.List.{List, ◌++◌}
use Prim.Native.Nat.{ℕ, zero, suc, ◌+◌, ◌*◌, ◌/◌, ◌≤◌}
use native.Mathlib.Numerals.{add-one}
use native.Mathlib.Omega.{arith}
use lib.IntN.{ℤ}
use lib.ListN.{length}
use borrow.Author.Tests.{ne_eqb}
use Rattle.console.specs.Text.{decimal, line_end, line, refused_word, Puts}
use Rattle.console.specs.declared.text.Text.{Text}
use Rattle.console.proofs.TextLaws.{puts_none, puts_then, puts_within}
use Rattle.image.specs.Format.{opening_of}
use Rattle.image.specs.Opened.{Read}
use Rattle.image.specs.declared.parts.Parts.{Parts}
use Rattle.image.proofs.Promise.{read_opening, read_refused, read_sound}
use Rattle.block.specs.Block.{PlaysOn, state-refused, lengths-refused, sample-refused, done, Plays, image-refused, conductance-refused, plays-on}
use Rattle.block.proofs.SampleLaws.{run_length}
use Rattle.block.specs.declared.call.State.{State}
use Rattle.rendering.specs.Rendering.{driven_of, sets_in, lines, after_word, ending}

-- ---- a block's count and its output bytes

-- once the circuit stands: as many output bytes as there were, and no more samples than they have places for
module _ {parts : Parts} {x : State} {n : ℕ} {drives outputs : List ℕ} where
  on_length : {number count : ℕ} {y : State} {o : List ℕ} → PlaysOn parts x n drives outputs number count y o → length o ≡ length outputs
  on_length (state-refused l) = refl
  on_length (lengths-refused l f) = refl
  on_length (sample-refused b j f) = run_length f.run
  on_length (done b run) = run_length run

  on_room : {number count : ℕ} {y : State} {o : List ℕ} → PlaysOn parts x n drives outputs number count y o → count ≤ length outputs / 4
  on_room (state-refused l) = omega arith
  on_room (lengths-refused l f) = omega arith
  on_room (sample-refused b j f) = omega (arith, j, b.fit.room)
  on_room (done b run) = b.fit.room

-- the same of any image
module _ {image : List ℕ} {x : State} {n : ℕ} {drives outputs : List ℕ} where
  pub plays_length : {number count : ℕ} {y : State} {o : List ℕ} → Plays image x n drives outputs number count y o → length o ≡ length outputs
  plays_length (image-refused e) = refl
  plays_length (conductance-refused e f) = refl
  plays_length (plays-on e t p) = on_length p

  pub plays_room : {number count : ℕ} {y : State} {o : List ℕ} → Plays image x n drives outputs number count y o → count ≤ length outputs / 4
  plays_room (image-refused e) = omega arith
  plays_room (conductance-refused e f) = omega arith
  plays_room (plays-on e t p) = on_room p

-- ---- text

-- no line yet, and one line more
module _ (f : ℕ → ℤ) where
  pub lines_none : {m : ℕ} {a : Text} → Puts (lines f 0) m a a
  unfolding lines
  lines_none = puts_none

  pub lines_more : (n : ℕ) {a b c : Text} → Puts (lines f n) (22 * n) a b → Puts (line (f n)) 22 b c → Puts (lines f (n + 1)) (22 * (n + 1)) a c
  unfolding lines
  lines_more n p q = rw (add-one n) (puts_within (omega arith) (puts_then p q))

-- the last line of a number above zero
pub ending_refused : (number count : ℕ) {m : ℕ} {a b : Text} → (number ≡ 0 → ⊥) → Puts (refused_word ++ (decimal number ++ (after_word ++ (decimal count ++ line_end)))) m a b → Puts (ending number count) m a b
ending_refused zero count h p = absurd (h refl)
ending_refused (suc number) count h p = p

-- ---- how many sets of drives

pub sets_none : (bytes driven : ℕ) → driven ≡ 0 → 0 ≡ sets_in bytes driven
unfolding sets_in
sets_none bytes driven e = rw e

pub sets_some : (bytes driven : ℕ) → (driven ≡ 0 → ⊥) → bytes / (4 * driven) ≡ sets_in bytes driven
unfolding sets_in
sets_some bytes driven h = rw (ne_eqb driven 0 h)

-- ---- how many nodes are driven

pub driven_opened : {image : List ℕ} {parts : Parts} → Read image (Ok parts) → (parts.driven ≡ driven_of (opening_of image)) × (parts.driven ≤ 15)
driven_opened {image} {parts} p =
    let s = read_sound image parts p in
    (rw (read_opening image parts p), omega (arith, s.driven_there, s.few_nodes))

pub driven_refused : {image : List ℕ} {k : Number} → Read image (Err k) → 0 ≡ driven_of (opening_of image)
driven_refused {image} {k} p = rw (read_refused image k p)
