use Prim.Native.Nat.{ℕ, ◌+◌, ◌<◌}
use mathlib.Core.Path.{◌≡◌, ◌∙◌, ap}
use mathlib.Core.List.{List}
use native.Mathlib.Numerals.{add-one}
use native.Mathlib.Omega.{arith}
use lib.IntN.{pos}
use lib.ListN.{length, get_or, take, length-take}
use borrow.Author.Rules.{rules}
use Rattle.std.proofs.lemmas.List.{get_or-take, get_or_default}
use Rattle.network.specs.Network.{reading}
use Rattle.console.proofs.TextLaws.{puts_then, puts_within}
use Rattle.report.specs.Curve.{slope_number}
use Rattle.report.proofs.curve.put_curve.Goals as goal

-- an item of the first n, whatever stands for one that is not there
among : {A : Type 0} (l : List A) (n j : ℕ) (d : A) {x : A} → j < length (take n l) → x ≡ get_or (take n l) j x → x ≡ get_or l j d
among l n j d {x} there is = is ∙ get_or-take n l j x (omega (arith, length-take n l)) ∙ get_or_default l j x d (omega (arith, length-take n l))

pub returns : goal.returns
returns c =
    let m = c.args.curve.count in
    let ss = c.args.curve.slopes in
    let bs = c.args.curve.breakpoints in
    let long : length ss ≡ 17 = search rules in
    let longer : length bs ≡ 16 = search rules in
    let few : length (take (m + 1) ss) ≡ m + 1 = omega (arith, length-take (m + 1) ss) in
    let fewer : length (take m bs) ≡ m = omega (arith, length-take m bs) in
    let slopes = rw (few, add-one) at (c.put_all.ensures.text (slope_number ss) (λ j number read there is converts. converts ∙ ap pos (among ss (m + 1) j 0 there is))) in
    let breakpoints = rw fewer at (c.put_all-2.ensures.text (reading bs) (λ j number read there is converts. converts ∙ among bs m j (pos 0) there is)) in
    let first = puts_then c.put_word.ensures (puts_then slopes c.put_word-2.ensures) in
    let second = puts_then c.put_word-3.ensures (puts_then breakpoints c.put_word-4.ensures) in
    let put = puts_within {n = 4096} (omega arith) (puts_then first second) in
    let adds = put.adds in
    search rules
