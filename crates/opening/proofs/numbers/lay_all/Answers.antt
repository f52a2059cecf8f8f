use mathlib.Core.Path.{◌≡◌, ◌∙◌}
use native.Mathlib.Omega.{arith}
use Rattle.units.specs.Table.{overlaid}
use Rattle.image.specs.Setting.{plain}
use Rattle.opening.proofs.LaidIs.{laid_none, elements_all}
use Rattle.opening.proofs.numbers.lay_all.Goals as goal

pub loop-j-init : goal.loop-j-init
unfolding overlaid
loop-j-init c = (rw (c.requires.1, c.leak.ensures) (laid_none c.args.parts.now plain))

pub returns : goal.returns
returns c =
    let l = c.loop-j in
    let e : l.j ≡ c.args.parts.now.element_count = omega arith in
    l.invariant ∙ elements_all c.args.parts.now plain l.j e (omega (arith, c.requires.0.few_elements))
