-- The number that a circuit's parts are answered by, whatever they come from: that of the first of the rules 2 to 6 that they break.
-- Assumes nothing.
use Rattle.std.specs.Prelude.{Bool, cond}
use Rattle.units.specs.declared.number.Number.{Number}
use Rattle.units.specs.declared.number.Number.TheVariants as number
use Rattle.image.specs.Parts.{header_fits, curve_sizes_fit, curves_fit, elements_fit}
use Rattle.image.specs.Conductance.{conductances_fit}
use Rattle.image.specs.Setting.{plain}
use Rattle.image.specs.declared.parts.Parts.{Parts}

-- the answer of the rest if the rule holds, and else its number
abbrev pub judged_by : Number → Bool → Number → Number
judged_by n holds rest = cond holds rest n

-- in the order of their numbers, as an image is opened and its conductances are judged after that
unfoldable pub judged : Parts → Number
judged parts =
    judged_by number.Trailer (header_fits parts)
    (judged_by number.Sizes (curve_sizes_fit parts)
    (judged_by number.Curve (curves_fit parts)
    (judged_by number.Element (elements_fit parts)
    (judged_by number.Conductance (conductances_fit parts plain)
    number.Done))))
