use Rattle.std.proofs.Common.{rules, tests, eqb, length, ◌<◌}
use Rattle.std.proofs.lemmas.List.Sorted.{answers_always}
use mathlib.Core.Path.{◌≡◌, sym, ap, ◌∙◌}
use Rattle.std.specs.Slice.Iter.{split_inclusive_rest}
use Rattle.console.specs.Words.{first, lines}
use Rattle.console.specs.declared.words.Run.TheVariants as run
use mathlib.Core.List.{◌∷◌}
use Rattle.netlist.specs.Answer.{long, read}
use Rattle.netlist.specs.Kept.{Right}
use Rattle.netlist.specs.Text.{SaysLine}
use Rattle.netlist.proofs.TextLaws.{piece_ends, piece_first, reached_first, reached_last, reached_fault, reached_more}
use Rattle.netlist.proofs.reader.read.Goals as goal
use Rattle.netlist.proofs.reader.read.Goals.{After-read-line}

pub returns-then-text-gt-LONGEST : goal.returns-then-text-gt-LONGEST
returns-then-text-gt-LONGEST c = long c.if-text-gt-LONGEST.true

pub loop-piece-init : goal.loop-piece-init
loop-piece-init c =
    let whole = ap split_inclusive_rest c.into_iter-piece-iterator.ensures.into_iter_gives ∙ c.split_inclusive-piece-items.ensures.rest in
    (c.if-text-gt-LONGEST.false, rw (whole, c.blank-draft.ensures) (reached_first c.args.text.now))

-- what is left begins with the line that was read, and is shorter after it
here : (c : After-read-line) → let left = split_inclusive_rest c.loop-piece.piece-iterator in let after = split_inclusive_rest c.next.new.self in (lines left ≡ first run.Line c.in-Some.piece.now ∷ lines after) × (length after < length left)
here c =
    let (joined, (i, size, places), some) = c.in-Some.ensures.steps in
    piece_first _ _ _ i joined size (places (λ b. eqb b 10) (answers_always _ _ _ (λ f a r g h. search (rules, tests)))).1 some

pub line_in-requires : goal.line_in-requires
line_in-requires c =
    let (joined, (i, size, places), some) = c.in-Some.ensures.steps in
    piece_ends _ _ _ i joined size (places (λ b. eqb b 10) (answers_always _ _ _ (λ f a r g h. search (rules, tests)))).1

told : (c : After-read-line) → Right (SaysLine (first run.Line c.in-Some.piece.now)) c.read-line.result
told c = rw c.line_in.ensures at c.read-line.ensures

pub returns-in-Some-fault_in : goal.returns-in-Some-fault_in
returns-in-Some-fault_in c =
    let (short, reached) = c.loop-piece.invariant in
    let r = (goal.at.returns-in-Some-fault_in c).After-read-line in
    rw c.of.ensures (read short (reached_fault _ _ _ _ reached _ _ (here r).0 _ (told r) c.in-Some-fault_in.fault (sym c.in-Some-fault_in.ensures)))

pub loop-piece-preserved : goal.loop-piece-preserved
loop-piece-preserved c =
    let (short, reached) = c.loop-piece.invariant in
    let r = (goal.at.loop-piece-preserved c).After-read-line in
    (short, rw c.with_line-draft.ensures (reached_more _ _ _ _ reached _ _ (here r).0 _ (told r) (here r).1 (sym c.in-None-fault_in.ensures)))

pub returns : goal.returns
returns c =
    let (short, reached) = c.loop-piece.invariant in
    rw c.at_end.ensures (read short (reached_last _ _ _ _ reached c.in-None.ensures.steps.0))
