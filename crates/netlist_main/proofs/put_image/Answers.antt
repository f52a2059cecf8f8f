use mathlib.Core.Path.{◌≡◌, sym, ◌∙◌, ap}
use mathlib.Core.List.{List}
use Prim.Native.Nat.{ℕ, ◌≤◌}
use native.Mathlib.Omega.{arith}
use lib.ListN.{length, take, drop, length-take}
use lib.Seq.{take_at}
use Rattle.std.proofs.Common.{Result, Ok, rules}
use Rattle.units.specs.declared.number.Number.TheVariants.{Done}
use Rattle.image.specs.Format.{longest}
use Rattle.image.specs.Judged.{judged}
use Rattle.image.specs.declared.parts.Parts.{Parts}
use Rattle.image.proofs.Versions.{own_version}
use Rattle.io.specs.Counts.{IsPrefixLen}
use Rattle.writing.specs.Image.{image_of}
use Rattle.writing.specs.Writes.{Writes}
use Rattle.writing.specs.declared.writer.Refusal.{Refusal}
use Rattle.writing.proofs.Longest.{answers_enough, result_enough}
use Rattle.netlist_main.proofs.put_image.Goals as goal

-- there is room for the image, so the writer writes it
module _ (parts : Parts) (before after : List ℕ) (r : Result ℕ Refusal) (done : judged parts ≡ Done) (room : longest ≤ length before) (writes : Writes parts before r after) where
  written : r ≡ Ok (length (image_of parts))
  written = writes.result ∙ result_enough parts (length before) done room

  image-there : (n : ℕ) → n ≡ length (image_of parts) → IsPrefixLen n after × (take n after ≡ image_of parts)
  image-there n long =
      let there : take n after ≡ image_of parts = rw (writes.buffer, answers_enough parts (length before) done room) (take_at (image_of parts) (drop (length (image_of parts)) before) n (sym long)) in
      let same : length (take n after) ≡ n = ap length there ∙ sym long in
      ((omega (arith, same, length-take n after), sym same), there)

pub unwrap-requires : goal.unwrap-requires
unwrap-requires c =
    let w = c.write_version in
    rw (written c.args.parts c.args.buffer.now w.new.buffer w.result c.requires.0 c.requires.1 (rw (← own_version c.args.parts) w.ensures)) (search rules)

pub returns : goal.returns
returns c =
    let w = c.write_version in
    let writes : Writes c.args.parts c.args.buffer.now w.result w.new.buffer = rw (← own_version c.args.parts) w.ensures in
    let is = written c.args.parts c.args.buffer.now w.new.buffer w.result c.requires.0 c.requires.1 writes in
    let long : c.unwrap.result ≡ length (image_of c.args.parts) = cc (is, c.unwrap.ensures) in
    image-there c.args.parts c.args.buffer.now w.new.buffer w.result c.requires.0 c.requires.1 writes _ long
