-- What an argument of the program `netlist` asks for. Assumes nothing.
use Rattle.std.specs.Prelude.{Bool, ◌&&◌, cond, Option, Some, None, List, ℕ, eqb, ltb, length, get_or}
use Rattle.console.specs.Number.{worth_at}
use Rattle.console.specs.Words.{past}
use Rattle.console.specs.declared.words.Run.TheVariants.{Digits}
use Rattle.netlist.specs.Kept.{byte}

-- a minus, and digits up to the end, at least one
abbrev pub asks_version : List ℕ → Bool
asks_version argument = eqb (get_or argument 0 0) 45 && ltb 1 (length argument) && eqb (past Digits argument 1) (length argument)

-- the version that these digits are, as the image's field keeps it; none where the argument names a file
unfoldable pub asked_of : List ℕ → Option ℕ
asked_of argument = cond (asks_version argument) (Some (byte (worth_at argument 1))) None
