use mathlib.Core.Path.{◌≡◌, sym, ◌∙◌}
use Prim.Native.Nat.{ℕ, ◌+◌, ◌<◌}
use native.Mathlib.Omega.{arith}
use lib.IntN.{pos}
use lib.ListN.{length, get_or}
use mir.Syntax.{w32}
use mir.Val.{of_z}
use borrow.Author.Rules.{rules}
use Rattle.network.specs.Network.{reading}
use Rattle.writing.proofs.Overlaying.{first_bytes, bits_bytes, curve_laid}
use Rattle.writing.proofs.curve.put_curve.Goals as goal

pub returns : goal.returns
returns c =
    let m = c.args.c.now.count in
    let slopes = c.args.c.now.slopes in
    let breakpoints = c.args.c.now.breakpoints in
    let bits = c.map-breakpoints.result in
    let mapped = c.map-breakpoints.ensures.items in
    let long : length slopes ≡ 17 = search rules in
    let same : (j : ℕ) → j < m → get_or bits j 0 ≡ of_z w32 (reading breakpoints j) = λ j h.
    let called = (mapped.at j (pos 0) 0 (omega arith)).2 in
    search rules in
    (rw (c.put_all.ensures, first_bytes slopes (m + 1) (omega arith), first_bytes bits m (omega (arith, mapped.long)), bits_bytes bits breakpoints m same) at c.put_all-2.ensures) ∙ sym (curve_laid _ _ _)
