use Rattle.image.proofs.Judging.{judged_sound}
use borrow.Author.Rules.{rules}
use Rattle.netlist_main.proofs.write_parts.Goals as goal

pub put_parts-listed-requires : goal.put_parts-listed-requires
put_parts-listed-requires g c = ((judged_sound _ c.requires).0, search rules)

pub write_curves-requires : goal.write_curves-requires
write_curves-requires g c = (judged_sound _ c.requires).0

pub put_bounds-bounded-requires : goal.put_bounds-bounded-requires
put_bounds-bounded-requires g c =
    let sound = judged_sound _ c.requires in
    (sound.0, sound.1, search rules)
