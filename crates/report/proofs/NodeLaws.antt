-- The nodes' lines one after the other, the greatest B, and what a sound circuit's board says. Assumes nothing.
use mathlib.Core.Path.{◌≡◌, refl}
use mathlib.Core.Bool.{true}
use mathlib.Core.List.{List}
use mathlib.Core.Logic.{inl, inr}
use Prim.Native.Nat.{ℕ, suc, ◌+◌, ◌*◌, ◌-◌, ◌^◌, ◌≤◌}
use native.Mathlib.Nat.{mul-le-mul_left}
use native.Mathlib.Omega.{arith}
use lib.IntN.{ℤ}
use Rattle.network.specs.Network.{Network, held, InLimits}
use Rattle.network.specs.Bound.{Enough}
use Rattle.network.proofs.Hold.{leak_held}
use Rattle.network.proofs.Ranges.{steepest_fits}
use Rattle.console.specs.Text.{Puts}
use Rattle.console.specs.declared.text.Text.{Text}
use Rattle.image.specs.Conductance.{conductances_fit}
use Rattle.image.specs.Meaning.{network_at}
use Rattle.image.specs.Setting.{plain}
use Rattle.image.specs.Sound.{Sound}
use Rattle.image.specs.declared.parts.Parts.{Parts}
use Rattle.image.proofs.Sound.{in_limits}
use Rattle.circuit.specs.Board.{network_on, Laid}
use Rattle.circuit.specs.Bound.{Bounding}
use Rattle.std.specs.Prelude.{Option, Some, None}
use Rattle.std.specs.Option.{unwrap_or}
use Rattle.opening.specs.Opening.{board_of, stretches_of}
use Rattle.opening.proofs.BoardIs.{laid, network_is}
use Rattle.report.specs.Nodes.{node_line, node_lines, Greatest}
use Rattle.report.proofs.TurnLaws.{turn_none, turn_more}

-- no node yet, and one more
module _ (N : Network) where
  pub nodes_none : {i m : ℕ} {a : Text} → i ≡ N.driven → Puts (node_lines N (i - N.driven)) m a a
  nodes_none {i} e = let z : i - N.driven ≡ 0 = omega arith in rw z (turn_none _)

  pub nodes_more : (i : ℕ) {a b c : Text} → N.driven ≤ i → Puts (node_lines N (i - N.driven)) (84 * (i - N.driven)) a b → Puts (node_line N (i + 1)) 84 b c → Puts (node_lines N (i + 1 - N.driven)) (84 * (i + 1 - N.driven)) a c
  nodes_more i h p q =
      let count : i + 1 - N.driven ≡ (i - N.driven) + 1 = omega arith in
      let node : i + 1 ≡ N.driven + suc (i - N.driven) = omega arith in
      rw count (turn_more _ (i - N.driven) p (rw node at q))

-- 2^36 is enough where nothing is asked but the balance
big_enough : (N : Network) → InLimits N → Enough N 0 (2 ^ 36)
big_enough N h i f =
    let m : 2 ^ 36 * 1 ≤ 2 ^ 36 * held N i = mul-le-mul_left {m = 1} {n = held N i} (2 ^ 36) (omega (arith, leak_held N i, h.leaks)) in
    omega (arith, m, steepest_fits N h i)

-- so the least fits, unless there is no free node
pub greatest_none : (board : List ℕ) (stretches : List ℤ) → InLimits (network_on board stretches) → Bounding board stretches 0 None → Greatest (network_on board stretches) 0
greatest_none board stretches h (inl e) = inl (e, refl)
greatest_none board stretches h (inr f) = absurd (omega (arith, f (2 ^ 36) (big_enough (network_on board stretches) h)))

-- the least bound, and 0 for none
pub greatest_of : (board : List ℕ) (stretches : List ℤ) → InLimits (network_on board stretches) → (o : Option ℕ) → Bounding board stretches 0 o → Greatest (network_on board stretches) (unwrap_or o 0)
greatest_of board stretches h (Some b) p = inr p
greatest_of board stretches h None p = greatest_none board stretches h p

-- the board and the stretches of a sound circuit
module _ (parts : Parts) (board : List ℕ) (stretches : List ℤ) (sound : Sound parts) (b : board ≡ board_of parts plain) (s : stretches ≡ stretches_of parts) where
  pub laid_is : conductances_fit parts plain ≡ true → Laid board stretches
  laid_is fits = rw (b, s) (laid parts plain 16 sound (in_limits parts plain sound fits))

  pub network_of_lem : network_on board stretches ≡ network_at parts plain
  network_of_lem = rw (b, s) (network_is parts plain 16 sound)
