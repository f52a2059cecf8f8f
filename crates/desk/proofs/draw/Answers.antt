use mathlib.Core.Path.{refl}
use native.Mathlib.Omega.{arith}
use lib.ListN.{length}
use Rattle.image.specs.Parts.{in_version}
use Rattle.netlist.proofs.Promise.{refused_numbered}
use Rattle.writing.proofs.Answers.{writes_number, writes_length}
use Rattle.writing.proofs.Longest.{length_beside_short}
use Rattle.desk.proofs.Counts.{refusal_small, answer_small, line_small}
use Rattle.desk.proofs.DrawnLaws.{drawn_refused, drawn_written}
use Rattle.desk.proofs.draw.Goals as goal

pub packed-requires : goal.packed-requires
packed-requires c =
    let whole = in_version c.args.version c.in-Ok.parts in
    (omega arith, omega (arith, writes_length c.in-Ok-write_version.ensures, length_beside_short whole (length c.args.image.now)))

pub packed-requires-in-Err-write_version : goal.packed-requires-in-Err-write_version
packed-requires-in-Err-write_version c =
    let whole = in_version c.args.version c.in-Ok.parts in
    (omega (arith, c.number.ensures, writes_number c.in-Err-write_version.ensures, answer_small whole (length c.args.image.now)), omega arith)

pub packed-requires-in-Err : goal.packed-requires-in-Err
packed-requires-in-Err c = (omega (arith, c.number-in-Err.ensures, refusal_small c.in-Err.refusal), omega (arith, c.line.ensures, line_small c.args.text.now c.in-Err.ensures))

pub returns-in-Ok-write_version : goal.returns-in-Ok-write_version
returns-in-Ok-write_version c =
    let w = c.in-Ok-write_version.ensures in
    let whole = in_version c.args.version c.in-Ok.parts in
    drawn_written c.args.version c.args.text.now c.args.image.now _ c.in-Ok.ensures refl w (omega (arith, writes_length w, length_beside_short whole (length c.args.image.now))) c.packed.ensures

pub returns-in-Err-write_version : goal.returns-in-Err-write_version
returns-in-Err-write_version c =
    drawn_written c.args.version c.args.text.now c.args.image.now _ c.in-Ok.ensures refl c.in-Err-write_version.ensures (omega arith) (rw c.number.ensures at c.packed-in-Err-write_version.ensures)

pub returns-in-Err : goal.returns-in-Err
returns-in-Err c =
    drawn_refused c.args.version c.args.text.now c.args.image.now _ c.in-Err.ensures c.number-in-Err.ensures c.line.ensures (λ e. refused_numbered c.args.text.now c.in-Err.ensures (rw c.number-in-Err.ensures at e)) c.packed-in-Err.ensures
