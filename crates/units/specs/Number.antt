-- Document 01's numbers, each once. Assumes nothing.
use Rattle.std.specs.Prelude.{ℕ}
use Rattle.units.specs.declared.number.Number.{Number}
use Rattle.units.specs.declared.number.Number.TheVariants.{Done, Length, Trailer, Sizes, Curve, Element, Conductance, State, Lengths, Drive, Rail, Stored}

-- the number that an answer has in document 01, "What comes back"
abbrev pub number_of : Number → ℕ
number_of Done = 0
number_of Length = 1
number_of Trailer = 2
number_of Sizes = 3
number_of Curve = 4
number_of Element = 5
number_of Conductance = 6
number_of State = 7
number_of Lengths = 8
number_of Drive = 9
number_of Rail = 10
number_of Stored = 11
