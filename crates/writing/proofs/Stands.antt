-- Bytes that stand in others from a place on: what is read there, and what follows of the whole from its parts. Assumes nothing.
use mathlib.Core.Path.{◌≡◌, refl, sym, ◌∙◌, ap}
use mathlib.Core.List.{List, [], ◌∷◌, ◌++◌}
use mathlib.Core.Logic.{⊎_elim}
use Prim.Native.Nat.{ℕ, zero, suc, ◌+◌, ◌*◌, ◌/◌, ◌%◌, ◌^◌, ◌≤◌, ◌<◌}
use native.Mathlib.Omega.{arith}
use native.Mathlib.Nat.{add-zero, pow-succ'}
use native.Mathlib.Numerals.{add-one}
use lib.ListN.{length, get_or, take, drop}
use lib.Seq.{drop-cons, take-length}
use Rattle.units.specs.Bytes.{little_endian}
use Rattle.units.proofs.Integers.{decide_n}
use Rattle.units.specs.Table.{in_turn}
use Rattle.writing.specs.Image.{bytes_of}

-- b stands in s from `at` on
pub data Stands (s : List ℕ) : ℕ → List ℕ → Type 0 where
  end : {at : ℕ} → Stands s at []
  more : {at v : ℕ} {b : List ℕ} → get_or s at 0 ≡ v → Stands s (suc at) b → Stands s at (v ∷ b)

-- all of it stands from the first place on
stands_behind : {s b : List ℕ} {at : ℕ} (x : ℕ) → Stands s at b → Stands (x ∷ s) (suc at) b
stands_behind x end = end
stands_behind x (more e rest) = more e (stands_behind x rest)

pub stands_self : (s : List ℕ) → Stands s 0 s
stands_self [] = end
stands_self (x ∷ s) = more refl (stands_behind x (stands_self s))

-- the same place by another name
pub stands_at : {s b : List ℕ} {at to : ℕ} → at ≡ to → Stands s at b → Stands s to b
stands_at e h = rw e at h

-- ---- two parts

next : (at n : ℕ) → suc at + n ≡ at + suc n
next at n = omega arith

module _ {s : List ℕ} where
  pub stands_first : (a b : List ℕ) {at : ℕ} → Stands s at (a ++ b) → Stands s at a
  stands_first [] b h = end
  stands_first (x ∷ a) b (more e rest) = more e (stands_first a b rest)

  pub stands_second : (a b : List ℕ) {at : ℕ} → Stands s at (a ++ b) → Stands s (at + length a) b
  stands_second [] b {at = at} h = rw (add-zero at) h
  stands_second (x ∷ a) b {at = at} (more e rest) = rw (next at (length a)) at (stands_second a b rest)

  pub stands_both : (a b : List ℕ) {at : ℕ} → Stands s at a → Stands s (at + length a) b → Stands s at (a ++ b)
  stands_both [] b {at = at} h k = rw (add-zero at) at k
  stands_both (x ∷ a) b {at = at} (more e rest) k = more e (stands_both a b rest (rw (next at (length a)) k))

  -- ---- parts in turn

  pub stands_turn : (f : ℕ → List ℕ) (n j : ℕ) {at : ℕ} → j < n → Stands s at (in_turn f n) → Stands s (at + length (in_turn f j)) (f j)
  unfolding in_turn
  stands_turn f zero j h k = absurd (omega arith)
  stands_turn f (suc n) j {at = at} h k =
      ⊎_elim
      (λ (l : n ≤ j). let e : j ≡ n = omega arith in rw e (stands_second (in_turn f n) (f n) k))
      (λ (l : j < n). stands_turn f n j l (stands_first (in_turn f n) (f n) k))
      (decide_n n j)

  pub stands_turns : (f : ℕ → List ℕ) (n : ℕ) {at : ℕ} → ((j : ℕ) → j < n → Stands s (at + length (in_turn f j)) (f j)) → Stands s at (in_turn f n)
  unfolding in_turn
  stands_turns f zero each = end
  stands_turns f (suc n) each = stands_both (in_turn f n) (f n) (stands_turns f n (λ j h. each j (omega arith))) (each n (omega arith))

  -- ---- numbers

  pub stands_number : (n v : ℕ) {at : ℕ} → v < 256 ^ n → Stands s at (bytes_of n v) → little_endian n s at ≡ v
  unfolding bytes_of little_endian
  stands_number zero v h k = omega arith
  stands_number (suc n) v {at = at} h (more e rest) =
      let above : v / 256 < 256 ^ n = omega (arith, pow-succ' 256 n) in
      rw (e, add-one at, stands_number n (v / 256) above rest) (omega arith)

  pub number_stands : (n at : ℕ) → ((i : ℕ) → get_or s i 0 < 256) → Stands s at (bytes_of n (little_endian n s at))
  unfolding bytes_of little_endian
  number_stands zero at bytes = end
  number_stands (suc n) at bytes =
      let low : get_or s at 0 ≡ (get_or s at 0 + 256 * little_endian n s (at + 1)) % 256 = omega (arith, bytes at) in
      let high : (get_or s at 0 + 256 * little_endian n s (at + 1)) / 256 ≡ little_endian n s (at + 1) = omega (arith, bytes at) in
      more {b = bytes_of n ((get_or s at 0 + 256 * little_endian n s (at + 1)) / 256)} low (rw (high, add-one at) (number_stands n (suc at) bytes))

  -- ---- the bytes themselves

  pub stands_cut : {b : List ℕ} {at : ℕ} → Stands s at b → at + length b ≤ length s → take (length b) (drop at s) ≡ b
  stands_cut end room = refl
  stands_cut {at = at} (more {v = v} e rest) room =
      rw (drop-cons s at 0 (omega arith), e) (ap (◌∷◌ v) (stands_cut rest (omega arith)))

  pub cut_stands : (n at : ℕ) → at + n ≤ length s → Stands s at (take n (drop at s))
  cut_stands zero at room = end
  cut_stands (suc n) at room = rw (drop-cons s at 0 (omega arith)) (more refl (cut_stands n (suc at) (omega arith)))

  pub stands_whole : {b : List ℕ} → Stands s 0 b → length s ≡ length b → s ≡ b
  stands_whole {b = b} h e = sym (take-length s) ∙ ap (λ (n : ℕ). take n s) e ∙ stands_cut h (omega arith)
