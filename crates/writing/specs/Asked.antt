-- What the writer's functions ask of one another; no outcome rests on it. Assumes nothing.
use Rattle.std.specs.Prelude.{ℕ, ◌≤◌, ◌<◌}
use Rattle.network.specs.Network.{breakpoint_count_limit}
use Rattle.image.specs.Parts.{curve_limit, curve_of}
use Rattle.image.specs.declared.parts.Parts.{Parts}

-- there are no more curves, and no more breakpoints in one, than there may be
pub record CurvesFew (parts : Parts) : Type 0 where
  pub few : parts.curve_count ≤ curve_limit
  pub short : (k : ℕ) → k < parts.curve_count → (curve_of parts k).count ≤ breakpoint_count_limit
