use Rattle.std.proofs.Common.{◌≡◌, ◌+◌, ◌-◌, length, arith, refl}
use lib.Seq.{drop-drop}
use Rattle.console.proofs.TextLaws.{overlaid_there, puts_added}
use Rattle.console.proofs.text.Text.put_word.Goals as goal

pub returns : goal.returns
returns c =
    let text = c.args.self.now.buffer.now in
    let end = c.args.self.now.end in
    let word = c.args.word.now in
    let long : end + length word - end ≡ length word = omega arith in
    puts_added refl (record {
      short = omega arith;
      moved = refl;
      buffer = rw (c.copy_from_slice.ensures.after, long, drop-drop (length word) end text) (overlaid_there text end word c.requires);
    })
