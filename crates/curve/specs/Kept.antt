-- What the pairs that have been read so far, line by line, say of the whole text. Assumes nothing.
use Rattle.std.specs.Prelude.{◌≡◌, List, ◌++◌, ℤ, Option, Some, None, take}
use Rattle.curve.specs.Text.{Told, told, broken, joined, answer}
use Rattle.curve.specs.declared.line.Line.{Line}
use Rattle.curve.specs.declared.kept.Kept.{Kept}

-- pairs before those that are told
abbrev pub before : List ℤ → List ℤ → Told → Told
before volts amps (told moreVolts moreAmps) = told (volts ++ moreVolts) (amps ++ moreAmps)
before volts amps broken = broken

-- what is told in all, where the pairs so far were these, or something else was told, and the lines after them tell more
unfoldable pub told_with : Option Kept → Told → Told
told_with (Some kept) more = before (take kept.count kept.voltages) (take kept.count kept.currents) more
told_with None more = broken

-- a line was read: whatever the lines after it tell, the answer is the same with the line told and with its pair kept
abbrev pub Reads : Kept → Line → Option Kept → Type 0
Reads kept line r = (more : Told) → answer (told_with r more) ≡ answer (told_with (Some kept) (joined line more))
