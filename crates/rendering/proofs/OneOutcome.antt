-- What comes of drives that were read: one number, one count, one state and one text. Assumes nothing.
use mathlib.Core.Path.{◌≡◌, sym, ◌∙◌, ap}
use mathlib.Core.List.{List}
use Prim.Native.Nat.{ℕ, ◌+◌}
use lib.ListN.{length}
use Rattle.units.specs.Table.{overlaid}
use Rattle.image.specs.Format.{opening_of}
use Rattle.block.specs.declared.call.State.{State}
use Rattle.block.proofs.OneOutcome.{plays_once}
use Rattle.block.specs.Host.{output_at}
use Rattle.rendering.specs.Rendering.{no_outputs, driven_of, sets_in, lines, Told}

-- what comes of one turn, put beside what else might
pub record SameTold (n₁ n₂ c₁ c₂ : ℕ) (y₁ y₂ : State) (r₁ r₂ : ℕ) (t₁ t₂ : List ℕ) : Type 0 where
  pub number : n₁ ≡ n₂
  pub count : c₁ ≡ c₂
  pub state : y₁ ≡ y₂
  pub end : r₁ ≡ r₂
  pub text : t₁ ≡ t₂

pub told_once : {image drives before : List ℕ} {x : State} {n₁ n₂ c₁ c₂ : ℕ} {y₁ y₂ : State} {r₁ r₂ : ℕ} {t₁ t₂ : List ℕ} → Told image x drives before n₁ c₁ y₁ r₁ t₁ → Told image x drives before n₂ c₂ y₂ r₂ t₂ → SameTold n₁ n₂ c₁ c₂ y₁ y₂ r₁ r₂ t₁ t₂
told_once {image} {drives} {before} {x} {c₁ = c₁} {c₂ = c₂} p q =
    let s = plays_once image x (sets_in (length drives) (driven_of (opening_of image))) drives no_outputs p.plays q.plays in
    let l : lines (output_at p.outputs) c₁ ≡ lines (output_at q.outputs) c₂ = rw (s.bytes, s.count) in
    record {
      number = s.number;
      count = s.count;
      state = s.state;
      end = p.text.moved ∙ ap (λ (t : List ℕ). 0 + length t) l ∙ sym q.text.moved;
      text = p.text.buffer ∙ ap (overlaid before 0) l ∙ sym q.text.buffer;
    }
