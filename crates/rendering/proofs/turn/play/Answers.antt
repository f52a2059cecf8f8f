use mathlib.Core.Path.{◌∙◌, ap}
use Prim.Native.Nat.{ℕ, ◌≤◌}
use native.Mathlib.Omega.{arith}
use lib.ListN.{length-replicate}
use Rattle.console.proofs.TextLaws.{adds_within}
use Rattle.rendering.specs.Rendering.{block_samples, sets_in}
use Rattle.rendering.proofs.RenderingLaws.{plays_room}
use Rattle.rendering.proofs.turn.play.Goals as goal

pub returns : goal.returns
returns c =
    let few : c.block-played.result.count ≤ block_samples = omega (arith, plays_room c.block-played.ensures, length-replicate {A = ℕ} 4096 0) in
    let n = c.sets-n.ensures ∙ ap (sets_in _) c.driven.ensures.0 in
    record {
      outputs = c.block-played.new.outputs;
      plays = rw n at c.block-played.ensures;
      text = adds_within (omega (arith, few)) c.put_lines-length.ensures;
      few = few;
    }
