-- An answer's number and its line are small, so that they go into one. Assumes nothing.
use mathlib.Core.Bool.{Bool, true, false, cond}
use Rattle.std.proofs.Common.{Ok, Err}
use mathlib.Core.List.{List, [], ◌∷◌}
use Prim.Native.Nat.{ℕ, suc, ◌+◌, ◌≤◌}
use native.Mathlib.Omega.{arith}
use lib.Dec.{eqb, leb}
use lib.ListN.{length}
use Rattle.units.specs.Number as numbers
use Rattle.units.proofs.Numbers.{number_small}
use Rattle.console.specs.Words.{onto, lines}
use Rattle.image.specs.Judged.{judged}
use Rattle.image.specs.declared.parts.Parts.{Parts}
use Rattle.netlist.specs.Draft.{complete}
use Rattle.netlist.specs.Text.{longest_text}
use Rattle.netlist.specs.Answer.{Answer, number_of, answer_line, at_end, Answered, ended, unread, repeated, beyond, passed, Answers, long, read}
use Rattle.netlist.specs.declared.draft.Draft.{Draft}
use Rattle.netlist.specs.declared.reader.Refusal.{Refusal}
use Rattle.netlist.specs.declared.reader.Refusal.TheVariants.{Rules, Grammar, Value}
use Rattle.writing.specs.Image.{image_of}
use Rattle.writing.specs.Writes.{short_buffer, answer_for}

-- ---- numbers

pub refusal_small : (r : Refusal) → number_of r ≤ 15
refusal_small (Rules n) = omega (arith, number_small n)
refusal_small (Grammar line) = omega arith
refusal_small (Value line) = omega arith

pub answer_small : (parts : Parts) (room : ℕ) → answer_for parts room ≤ short_buffer
unfolding answer_for
answer_small parts room = go (eqb (numbers.number_of (judged parts)) 0) (leb (length (image_of parts)) room)
  where
    go : (kept fits : Bool) → cond kept (cond fits 0 short_buffer) (numbers.number_of (judged parts)) ≤ short_buffer
    go true true = omega arith
    go true false = omega arith
    go false fits = omega (arith, number_small (judged parts))

-- ---- lines

onto_few : (b : ℕ) (others : List (List ℕ)) → length (onto b others) ≤ suc (length others)
onto_few b [] = omega arith
onto_few b (here ∷ others) = omega arith

-- a text has no more lines than bytes
lines_few : (text : List ℕ) → length (lines text) ≤ length text
unfolding lines
lines_few [] = omega arith
lines_few (b ∷ text) = go (eqb b 10) (lines_few text)
  where
    go : (t : Bool) → length (lines text) ≤ length text → length (cond t ([] ∷ lines text) (onto b (lines text))) ≤ suc (length text)
    go true h = omega arith
    go false h = omega (arith, onto_few b (lines text))

end_line : (n : ℕ) (d : Draft) → answer_line (at_end n d) ≤ n
unfolding at_end
end_line n d = go (complete d) (eqb (numbers.number_of (judged d.parts)) 0)
  where
    go : (s t : Bool) → answer_line (cond s (cond t (Ok d.parts) (Err (Rules (judged d.parts)))) (Err (Grammar n))) ≤ n
    go true true = omega arith
    go true false = omega arith
    go false t = omega arith

answered_line : {text : List (List ℕ)} {n : ℕ} {d : Draft} {a : Answer} → Answered text n d a → answer_line a ≤ n + length text
answered_line (ended {n = n} {d = d}) = omega (arith, end_line n d)
answered_line (unread h) = omega arith
answered_line (repeated x s k) = omega arith
answered_line (beyond x s k) = omega arith
answered_line (passed x s k rest) = omega (arith, answered_line rest)

-- the line after the last is the farthest that is named
pub line_small : (text : List ℕ) {a : Answer} → Answers text a → answer_line a ≤ 1 + longest_text
line_small text (long h) = omega arith
line_small text (read h rest) = omega (arith, answered_line rest, lines_few text)
