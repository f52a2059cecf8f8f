-- How far to trust a circuit's voltages, as lines. Assumes nothing.
use Rattle.std.specs.Prelude.{◌≡◌, List, [], ◌∷◌, ◌++◌, ◌⊎◌, ℕ, suc, ◌+◌, ◌-◌, ◌<◌}
use Rattle.units.specs.Integer.{rounded_up}
use Rattle.units.specs.Table.{in_turn}
use Rattle.network.specs.Network.{Network, held, steepest}
use Rattle.network.specs.Bound.{LeastEnough}
use Rattle.console.specs.Text.{Adds}
use Rattle.report.specs.Fields.{column, last_column, named_line}

-- a node's number, its held conductance, its steepest sum, and the least B for e = 0: their quotient, rounded up
abbrev pub node_line : Network → ℕ → List ℕ
node_line N i = column i ++ (column (held N i) ++ (column (steepest N i) ++ last_column (rounded_up (steepest N i) (held N i))))

-- the lines of the first n free nodes
abbrev pub node_lines : Network → ℕ → List ℕ
node_lines N = in_turn (λ (k : ℕ). node_line N (N.driven + suc k))

-- those of all free nodes
abbrev pub free_lines : Network → List ℕ
free_lines N = node_lines N (N.nodes - N.driven)

-- the greatest B: the least that is enough at every free node, and 0 where there is none
abbrev pub Greatest : Network → ℕ → Type 0
Greatest N b = ((N.driven ≡ N.nodes) × (b ≡ 0)) ⊎ ((N.driven < N.nodes) × LeastEnough N 0 b)

-- `greatest `
abbrev pub greatest_word : List ℕ
greatest_word = 103 ∷ 114 ∷ 101 ∷ 97 ∷ 116 ∷ 101 ∷ 115 ∷ 116 ∷ 32 ∷ []

-- both stand at the start of a buffer, up to r
pub record Bounds (N : Network) (before : List ℕ) (r : ℕ) (after : List ℕ) : Type 0 where
  pub most : ℕ
  pub is_greatest : Greatest N most
  pub text : Adds (free_lines N ++ named_line greatest_word most) 4096 0 before r after
