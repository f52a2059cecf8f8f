use mathlib.Core.Path.{sym, ◌∙◌, ap}
use Rattle.console.specs.Words.{first}
use Rattle.console.specs.declared.words.Run.TheVariants.{Word}
use Rattle.console.specs.Number.{spelt}
use Rattle.curve.specs.Text.{line_of}
use Rattle.curve.proofs.line.read.Goals as goal

pub returns-then-is_empty : goal.returns-then-is_empty
unfolding line_of
returns-then-is_empty c =
    let one = rw c.first-said.ensures at c.rest-from_first.ensures in
    let none = sym c.is_empty.ensures ∙ c.if-is_empty.true in
    rw (rw one at none)

pub returns-then-not-is_empty : goal.returns-then-not-is_empty
unfolding line_of
returns-then-not-is_empty c =
    let one = rw c.first-said.ensures at c.rest-from_first.ensures in
    let two = rw one at c.next_word-from_second.ensures in
    let three = rw two at c.next_word-after.ensures in
    let some = sym c.is_empty.ensures ∙ c.if-is_empty.false in
    let more = sym c.is_empty-2.ensures ∙ c.if-not-is_empty.true in
    rw (rw one at some, rw three at more)

pub returns : goal.returns
unfolding line_of
returns c =
    let one = rw c.first-said.ensures at c.rest-from_first.ensures in
    let two = rw one at c.next_word-from_second.ensures in
    let three = rw two at c.next_word-after.ensures in
    let some = sym c.is_empty.ensures ∙ c.if-is_empty.false in
    let none = sym c.is_empty-2.ensures ∙ c.if-not-is_empty.false in
    let first_word = c.number-voltage.ensures ∙ ap spelt (c.first.ensures ∙ ap (first Word) one) in
    let second_word = c.number-current.ensures ∙ ap spelt (c.first-2.ensures ∙ ap (first Word) two) in
    c.pair.ensures ∙ rw (rw one at some, rw three at none, first_word, second_word)
