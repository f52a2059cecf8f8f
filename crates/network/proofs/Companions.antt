-- What the stored current is for: the trapezoidal rule between one sample and the next (document 000, equation 3.27, Z = 1 and -1).
-- v is the voltage of the one sample, u that of the next, x the stored current before them. Assumes nothing.
use mathlib.Core.Path.{◌≡◌}
use Prim.Native.Nat.{ℕ, ◌*◌}
use lib.IntN.{ℤ, pos, ◌+ℤ◌, ◌-ℤ◌, ◌*ℤ◌}
use Rattle.units.proofs.Integers.{signs, add_law, sub_law, scale_law}
use Rattle.network.specs.Network.{conductance, capacitor, inductor, current, advance}

-- the currents of the two samples together are the conductance times the change of voltage
pub capacitor_law : (g : ℕ) (x v u : ℤ) → current 1 (conductance g) (advance capacitor g x v) u +ℤ current 1 (conductance g) x v ≡ pos g *ℤ u -ℤ pos g *ℤ v
unfolding current advance
capacitor_law g x v u =
    let y = pos (2 * g) *ℤ v -ℤ x in
    omega (
      signs,
      add_law (pos g *ℤ u -ℤ pos 1 *ℤ y) (pos g *ℤ v -ℤ pos 1 *ℤ x),
      sub_law (pos g *ℤ u) (pos 1 *ℤ y),
      sub_law (pos g *ℤ v) (pos 1 *ℤ x),
      sub_law (pos (2 * g) *ℤ v) x,
      sub_law (pos g *ℤ u) (pos g *ℤ v),
      scale_law 1 y,
      scale_law 1 x,
      scale_law (2 * g) v,
      scale_law g v,
    )

-- the change of current is the conductance times the voltages of the two samples together
pub inductor_law : (g : ℕ) (x v u : ℤ) → current 1 (conductance g) (advance inductor g x v) u -ℤ current 1 (conductance g) x v ≡ pos g *ℤ u +ℤ pos g *ℤ v
unfolding current advance
inductor_law g x v u =
    let y = x -ℤ pos (2 * g) *ℤ v in
    omega (
      signs,
      sub_law (pos g *ℤ u -ℤ pos 1 *ℤ y) (pos g *ℤ v -ℤ pos 1 *ℤ x),
      sub_law (pos g *ℤ u) (pos 1 *ℤ y),
      sub_law (pos g *ℤ v) (pos 1 *ℤ x),
      sub_law x (pos (2 * g) *ℤ v),
      add_law (pos g *ℤ u) (pos g *ℤ v),
      scale_law 1 y,
      scale_law 1 x,
      scale_law (2 * g) v,
      scale_law g v,
    )
