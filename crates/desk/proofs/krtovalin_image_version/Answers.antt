use mathlib.Core.Path.{◌≡◌}
use mathlib.Core.List.{List}
use Prim.Native.Nat.{ℕ}
use Rattle.desk.specs.Drawn.{Drawn}
use Rattle.desk.proofs.DrawnLaws.{drawn_kept}
use Rattle.desk.proofs.krtovalin_image_version.Goals as goal

-- what is drawn in a version is drawn in what that is
drawn-of : {version kept : ℕ} {text before after : List ℕ} {r : ℕ} → version ≡ kept → Drawn version text before r after → Drawn kept text before r after
drawn-of e d = rw e at d

pub returns : goal.returns
returns c = drawn_kept _ _ _ (drawn-of c.narrow.ensures c.draw.ensures)
