-- How long an image can be: the parts of any other length are refused by 2 or 3, and a buffer of the greatest length has room for every image. Assumes nothing.
use mathlib.Core.Path.{◌≡◌, refl, sym, ◌∙◌, ap}
use mathlib.Core.Bool.{Bool, true, false, cond}
use mathlib.Core.Logic.{◌⊎◌, inl, inr}
use Prim.Native.Nat.{ℕ, zero, suc, ◌*◌, ◌≤◌, ◌<◌}
use native.Mathlib.Omega.{arith}
use lib.Dec.{eqb}
use lib.ListN.{length, length-append}
use borrow.Author.Tests.{le-leb, eqb-true}
use Rattle.units.specs.declared.number.Number.TheVariants.{Done, Trailer, Sizes}
use Rattle.units.specs.Table.{in_turn}
use Rattle.units.proofs.Every.{between_says}
use Rattle.network.specs.Network.{breakpoint_count_limit}
use Rattle.image.specs.Parts.{curve_of, header_fits, curve_sizes_fit}
use Rattle.image.specs.Curve.{curve_length}
use Rattle.image.specs.Format.{shortest, longest, length_fits}
use Rattle.image.specs.Judged.{judged}
use Rattle.image.specs.declared.parts.Curve.{Curve}
use Rattle.image.specs.declared.parts.Parts.{Parts}
use Rattle.image.proofs.Judging.{judged_keeps}
use Rattle.image.proofs.Says.{header_says, curve_size}
use Rattle.std.specs.Prelude.{Ok}
use Rattle.writing.specs.Image.{curve_bytes, image_of}
use Rattle.writing.specs.Writes.{answer_for, result_for, length_beside}
use Rattle.writing.proofs.Answers.{answer-judged}
use Rattle.writing.proofs.Overlaying.{curve_length_lem, image_length}

-- no curve is longer than one with as many breakpoints as there may be
curves_short : (curve : ℕ → Curve) (n : ℕ) → ((k : ℕ) → k < n → (curve k).count ≤ breakpoint_count_limit) → length (in_turn (λ (k : ℕ). curve_bytes (curve k)) n) ≤ curve_length breakpoint_count_limit * n
unfolding in_turn
curves_short curve zero short = omega arith
curves_short curve (suc n) short = omega (arith, length-append (in_turn (λ (k : ℕ). curve_bytes (curve k)) n) (curve_bytes (curve n)), curve_length_lem (curve n), short n (omega arith), curves_short curve n (λ k h. short k (omega arith)))

-- rules 2 and 3 let no image be shorter or longer than one may be
pub length_fits_lem : (parts : Parts) → header_fits parts ≡ true → curve_sizes_fit parts ≡ true → length_fits (length (image_of parts)) ≡ true
length_fits_lem parts header sizes =
    let says = header_says parts header in
    let few = curves_short (curve_of parts) parts.curve_count (λ k h. (between_says 1 breakpoint_count_limit (curve_of parts k).count (curve_size parts sizes k h)).1) in
    rw (le-leb shortest (length (image_of parts)) (omega (arith, image_length parts, says.some_element)), le-leb (length (image_of parts)) longest (omega (arith, image_length parts, says.few_elements, says.few_curves, few)))

-- so parts whose image would be are refused by 2 or by 3
pub outside_length : (parts : Parts) → length_fits (length (image_of parts)) ≡ false → (judged parts ≡ Trailer) ⊎ (judged parts ≡ Sizes)
unfolding judged
outside_length parts outside = by_header (header_fits parts) refl
  where
    by_sizes : (t : Bool) → curve_sizes_fit parts ≡ t → header_fits parts ≡ true → (judged parts ≡ Trailer) ⊎ (judged parts ≡ Sizes)
    by_sizes true f e = let z : ◌≡◌ {A = ℕ} 0 1 = ap (λ (b : Bool). cond b 0 1) (sym (length_fits_lem parts e f) ∙ outside) in absurd (omega arith)
    by_sizes false f e = inr (rw (e, f))

    by_header : (t : Bool) → header_fits parts ≡ t → (judged parts ≡ Trailer) ⊎ (judged parts ≡ Sizes)
    by_header true e = by_sizes (curve_sizes_fit parts) refl e
    by_header false e = inl (rw e)

pub image_short : (parts : Parts) → judged parts ≡ Done → length (image_of parts) ≤ longest
image_short parts e =
    let keeps = judged_keeps parts e in
    (between_says shortest longest (length (image_of parts)) (length_fits_lem parts keeps.header keeps.sizes)).1

-- and a buffer of the greatest length is always enough
pub answers_enough : (parts : Parts) (room : ℕ) → judged parts ≡ Done → longest ≤ room → answer_for parts room ≡ 0
unfolding answer_for
answers_enough parts room done enough = rw (done, le-leb (length (image_of parts)) room (omega (arith, image_short parts done)))

pub result_enough : (parts : Parts) (room : ℕ) → judged parts ≡ Done → longest ≤ room → result_for parts room ≡ Ok (length (image_of parts))
unfolding result_for
result_enough parts room done enough = rw (done, le-leb (length (image_of parts)) room (omega (arith, image_short parts done)))

-- the length that the writer answers is never more
pub length_beside_short : (parts : Parts) (room : ℕ) → length_beside (answer_for parts room) parts ≤ longest
length_beside_short parts room = go (eqb (answer_for parts room) 0) refl
  where
    go : (t : Bool) → eqb (answer_for parts room) 0 ≡ t → cond t (length (image_of parts)) 0 ≤ longest
    go true e = image_short parts (answer-judged parts room (eqb-true (answer_for parts room) 0 e))
    go false e = omega arith
