-- Texts put in turn, none of which is longer than another may be. Assumes nothing.
use mathlib.Core.List.{List}
use Prim.Native.Nat.{ℕ, ◌+◌, ◌*◌}
use native.Mathlib.Nat.{mul-suc}
use native.Mathlib.Numerals.{add-one}
use native.Mathlib.Omega.{arith}
use Rattle.units.specs.Table.{in_turn}
use Rattle.console.specs.Text.{Puts}
use Rattle.console.specs.declared.text.Text.{Text}
use Rattle.console.proofs.TextLaws.{puts_none, puts_then, puts_within}

module _ (text : ℕ → List ℕ) {a : Text} where
  -- none yet
  pub turn_none : {m : ℕ} → Puts (in_turn text 0) m a a
  unfolding in_turn
  turn_none = puts_none

  -- one more
  pub turn_more : (j : ℕ) {m : ℕ} {b c : Text} → Puts (in_turn text j) (m * j) a b → Puts (text j) m b c → Puts (in_turn text (j + 1)) (m * (j + 1)) a c
  unfolding in_turn
  turn_more j {m = m} p q = rw (add-one j) (puts_within (omega (arith, mul-suc m j)) (puts_then p q))
