-- The grammar of a text: lines, each of which says something, and each setting once. Assumes nothing.
use Rattle.std.specs.Prelude.{◌≡◌, true, Some, List, [], ◌∷◌, ℕ, ◌≤◌, length}
use Rattle.console.specs.Words.{first, lines}
use Rattle.console.specs.declared.words.Run.TheVariants as run
use Rattle.netlist.specs.Line.{Says}
use Rattle.netlist.specs.Draft.{blank_draft, complete, fault_of, with_line}
use Rattle.netlist.specs.declared.draft.Draft.{Draft}
use Rattle.netlist.specs.declared.draft.Fault.TheVariants.{Grammar}
use Rattle.netlist.specs.declared.said.Line.{Line}

-- the longest text that is read, in bytes
abbrev pub longest_text : ℕ
longest_text = 65535

-- what a line says stands before its comment
abbrev pub SaysLine : List ℕ → Line → Type 0
SaysLine line = Says (first run.Said line)

-- lines that go on from one draft to another: each says something, and no setting is said again; at the end all settings have been said
pub data Netlist : List (List ℕ) → Draft → Draft → Type 0 where
  end : {d : Draft} → complete d ≡ true → Netlist [] d d
  line : {here : List ℕ} {others : List (List ℕ)} {d whole : Draft} (x : Line) → SaysLine here x → (fault_of d x ≡ Some Grammar → ⊥) → Netlist others (with_line d x) whole → Netlist (here ∷ others) d whole

-- a text of the grammar, and what its lines make
pub record InGrammar (text : List ℕ) (whole : Draft) : Type 0 where
  pub short : length text ≤ longest_text
  pub reads : Netlist (lines text) blank_draft whole
