use mathlib.Core.Path.{sym, ◌∙◌, ap}
use Prim.Native.Nat.{◌≤◌}
use native.Mathlib.Omega.{arith}
use lib.ListN.{length}
use Rattle.units.specs.Number.{number_of}
use Rattle.units.proofs.Numbers.{done_only}
use Rattle.image.proofs.Judging.{judged_sound}
use Rattle.writing.specs.Image.{image_of}
use Rattle.writing.proofs.Answers.{writes-broken, writes_short, writes-image}
use Rattle.writing.proofs.Overlaying.{image_length, image_laid, curves_few}
use Rattle.writing.proofs.writer.write_parts.Goals as goal

pub returns-in_default : goal.returns-in_default
returns-in_default c = rw c.judge.ensures (writes-broken _ _ (λ e. c.in_default.not-Done (c.judge.ensures ∙ done_only _ e)))

pub curves_length-curves-requires : goal.curves_length-curves-requires
curves_length-curves-requires c = curves_few _ (judged_sound _ (sym c.judge.ensures ∙ c.in-Done.is)).0

pub returns-then-buffer-before : goal.returns-then-buffer-before
returns-then-buffer-before c = writes_short _ _ (ap number_of (sym c.judge.ensures ∙ c.in-Done.is)) (omega arith)

pub put_elements-requires : goal.put_elements-requires
put_elements-requires c =
    let sound = (judged_sound _ (sym c.judge.ensures ∙ c.in-Done.is)).0 in
    (sound.few_elements, omega arith)

pub put_curves-requires : goal.put_curves-requires
put_curves-requires c = (curves_few _ (judged_sound _ (sym c.judge.ensures ∙ c.in-Done.is)).0, omega arith)

pub returns : goal.returns
returns c =
    let whole = image_length c.args.parts in
    let counted = c.curves_length-curves.ensures.0 in
    let room : length (image_of c.args.parts) ≤ length c.args.buffer.now = omega (arith, whole, counted, c.if-buffer-before.false) in
    writes-image _ _ _ _ (ap number_of (sym c.judge.ensures ∙ c.in-Done.is)) room (omega (arith, whole, counted)) (image_laid c.args.parts c.curves_length-curves.result c.args.buffer.now counted room c.put_elements.ensures c.put_curves.ensures c.put_trailer.ensures)
