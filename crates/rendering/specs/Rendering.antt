-- Rendering: document 01, "What comes back", last paragraph, of bytes that were read and of text in a buffer. No contract can say which bytes a file holds or what a
-- write leaves in one: that is the program's, and there to be read. Assumes nothing.
use Rattle.std.specs.Prelude.{cond, List, [], ◌∷◌, ◌++◌, ℕ, zero, suc, ◌*◌, ◌/◌, ◌≤◌, eqb, ℤ, length, replicate}
use Rattle.image.specs.Format.{Opening, opening_of, opened, refused}
use Rattle.block.specs.Block.{Plays}
use Rattle.block.specs.Host.{output_at}
use Rattle.block.specs.declared.call.State.{State}
use Rattle.console.specs.Text.{decimal, line_end, line, refused_word, Adds}

-- how many samples are played at a time, and the outputs' bytes before they are
abbrev pub block_samples : ℕ
block_samples = 1024

abbrev pub no_outputs : List ℕ
no_outputs = replicate 4096 0

-- how many nodes are driven; none of an image that is not opened
abbrev pub driven_of : Opening → ℕ
driven_of (opened parts) = parts.driven
driven_of (refused number) = 0

-- how many full sets of drives so many bytes hold: none if no node is driven
unfoldable pub sets_in : ℕ → ℕ → ℕ
sets_in bytes driven = cond (eqb driven 0) 0 (bytes / (4 * driven))

-- the first n of these numbers, a line each
unfoldable pub lines : (ℕ → ℤ) → ℕ → List ℕ
lines f zero = []
lines f (suc n) = lines f n ++ line (f n)

-- the sets of drives that were read are played from the state x: the block's number and count, the state after it, and in the text's buffer the lines of the accepted samples' outputs. At
-- most a block of them are accepted, which follows and is there for callers
pub record Told (image : List ℕ) (x : State) (drives before : List ℕ) (number count : ℕ) (y : State) (r : ℕ) (after : List ℕ) : Type 0 where
  pub outputs : List ℕ
  pub plays : Plays image x (sets_in (length drives) (driven_of (opening_of image))) drives no_outputs number count y outputs
  pub text : Adds (lines (output_at outputs) count) (22 * block_samples) 0 before r after
  pub few : count ≤ block_samples

-- `end ` and ` after `
abbrev pub end_word : List ℕ
end_word = 101 ∷ 110 ∷ 100 ∷ 32 ∷ []

abbrev pub after_word : List ℕ
after_word = 32 ∷ 97 ∷ 102 ∷ 116 ∷ 101 ∷ 114 ∷ 32 ∷ []

-- the last line, by document 01's number and the count over all blocks
abbrev pub ending : ℕ → ℕ → List ℕ
ending zero count = end_word ++ (decimal count ++ line_end)
ending (suc number) count = refused_word ++ (decimal (suc number) ++ (after_word ++ (decimal count ++ line_end)))
