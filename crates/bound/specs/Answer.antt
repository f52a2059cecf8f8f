-- What the program `bound` writes of an image. Assumes nothing.
use Rattle.std.specs.Prelude.{Bool, true, false, List, ℕ}
use Rattle.units.specs.Number.{number_of}
use Rattle.units.specs.declared.number.Number.{Number}
use Rattle.units.specs.declared.number.Number.TheVariants.{Conductance}
use Rattle.image.specs.Conductance.{conductances_fit}
use Rattle.image.specs.Format.{Opening, opened, refused}
use Rattle.image.specs.Meaning.{network_at}
use Rattle.image.specs.Setting.{plain}
use Rattle.image.specs.declared.parts.Parts.{Parts}
use Rattle.console.specs.Text.{refused_line, Adds}
use Rattle.report.specs.Nodes.{Bounds}

-- the number by which an image is refused stands at the start of a buffer, up to r
abbrev pub Refusal : Number → List ℕ → ℕ → List ℕ → Type 0
Refusal number = Adds (refused_line (number_of number)) 4096 0

-- of an opened image, by whether rule 6 holds: the report on its network, or that rule's number
abbrev pub ReportOn : Parts → Bool → List ℕ → ℕ → List ℕ → Type 0
ReportOn parts true = Bounds (network_at parts plain)
ReportOn parts false = Refusal Conductance

-- of any image: that, or the number of the rule that it was not opened by
abbrev pub Answered : Opening → List ℕ → ℕ → List ℕ → Type 0
Answered (opened parts) = ReportOn parts (conductances_fit parts plain)
Answered (refused number) = Refusal number
