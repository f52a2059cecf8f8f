use mathlib.Core.Path.{◌≡◌, sym, ◌∙◌, ap}
use mathlib.Core.List.{[]}
use Prim.Native.Nat.{ℕ, suc, ◌+◌}
use native.Mathlib.Omega.{arith}
use lib.ListN.{length, drop, length-drop, drop_of_length-le}
use lib.Seq.{drop-drop, length-take-le}
use Rattle.std.proofs.Common.{Some, None}
use Rattle.std.proofs.lemmas.List.Sums.{prefix_len-le-length}
use Rattle.console.specs.Words.{belongs, first, lines}
use Rattle.console.specs.declared.words.Run.TheVariants.{Line}
use Rattle.console.proofs.WordLaws.{from_there}
use Rattle.curve.specs.Text.{told, told_by, answer}
use Rattle.curve.proofs.TextLaws.{line_length, told_none}
use Rattle.curve.proofs.KeptLaws.{start_tells, broken_tells, reads_first}
use Rattle.curve.proofs.pairs.read.Goals as goal

pub loop-at-init : goal.loop-at-init
loop-at-init c =
    let made = c.none-kept in
    (omega arith, ap answer (start_tells made.result made.ensures (told_by (lines c.args.text.now))))

pub returns-in_err-kept : goal.returns-in_err-kept
returns-in_err-kept c =
    let l = c.loop-at in
    let text = c.args.text.now in
    let rest = drop l.at text in
    let line : c.first-line.result.now ≡ first Line rest = rw (from_there l.at text) at c.first-line.ensures in
    let tells = reads_first l.kept None rest _ (λ e. omega (arith, e, length-drop l.at text)) line c.in_err-kept.ensures in
    rw c.from_residual.ensures (ap answer (broken_tells (told [] []) ∙ sym (broken_tells _)) ∙ tells ∙ l.invariant.1)

pub loop-at-preserved : goal.loop-at-preserved
loop-at-preserved c =
    let l = c.loop-at in
    let text = c.args.text.now in
    let rest = drop l.at text in
    let n = line_length rest in
    let line : c.first-line.result.now ≡ first Line rest = rw (from_there l.at text) at c.first-line.ensures in
    let few = prefix_len-le-length (belongs Line) rest in
    let long : length c.first-line.result.now ≡ n = ap length line ∙ length-take-le n rest few in
    let at : l.at + (length c.first-line.result.now + 1) ≡ l.at + suc n = omega (arith, long) in
    let next : drop (l.at + (length c.first-line.result.now + 1)) text ≡ drop (suc n) rest = ap (λ (i : ℕ). drop i text) at ∙ sym (drop-drop (suc n) l.at text) in
    let read = c.in_ok-kept.ensures in (
      omega (arith, at, few, length-drop l.at text),
      rw next (reads_first l.kept (Some c.in_ok-kept.kept) rest _ (λ e. omega (arith, e, length-drop l.at text)) line read ∙ l.invariant.1),
    )

pub returns : goal.returns
returns c =
    let l = c.loop-at in
    let text = c.args.text.now in
    let past : drop l.at text ≡ [] = drop_of_length-le text {i = l.at} c.loop-at-test.false in
    rw (past, told_none) at l.invariant.1
