-- A curve's current is that of its line, on the stretch that the voltage lies in. Assumes nothing.
use mathlib.Core.Path.{◌≡◌, refl}
use mathlib.Core.Bool.{Bool, true, false, cond}
use mathlib.Core.List.{List, [], ◌∷◌}
use Prim.Native.Nat.{ℕ, zero, suc, ◌≤◌, ◌<◌}
use native.Mathlib.Omega.{arith}
use lib.IntN.{ℤ, pos, ◌+ℤ◌, ◌-ℤ◌, ◌*ℤ◌, *ℤ-zero}
use lib.ListN.{length, get_or}
use lib.Signed.{◌<ℤ◌, le_z}
use Rattle.units.specs.Integer.{lower, higher}
use Rattle.units.proofs.Integers.{signs, add_law, sub_law, pos_law, le_z_true, le_z_false, ordered, crossed, scale_one}
use Rattle.network.specs.Network.{curve, reading, ramp, current, Rising}
use Rattle.stretch.specs.Stretch.{stretch_of, offset, at_zero_of}

-- what all lines of a curve share
shared : List ℕ → List ℤ → ℤ
shared [] bs = pos 0
shared (s ∷ ss) [] = pos 0
shared (s ∷ ss) (b ∷ bs) = pos (get_or ss 0 0) *ℤ b +ℤ shared ss bs

-- the offsets of a curve without its first stretch
offset_tail : (s : ℕ) (ss : List ℕ) (b : ℤ) (bs : List ℤ) (j : ℕ) → offset (s ∷ ss) (b ∷ bs) (suc j) ≡ (pos s *ℤ b -ℤ pos (get_or ss 0 0) *ℤ b) +ℤ offset ss bs j
unfolding offset
offset_tail s ss b bs zero = omega (signs, add_law (pos 0) (pos s *ℤ b -ℤ pos (get_or ss 0 0) *ℤ b), add_law (pos s *ℤ b -ℤ pos (get_or ss 0 0) *ℤ b) (pos 0))
offset_tail s ss b bs (suc j) =
    let a = pos s *ℤ b -ℤ pos (get_or ss 0 0) *ℤ b in
    let c = pos (get_or ss j 0) *ℤ reading bs j -ℤ pos (get_or ss (suc j) 0) *ℤ reading bs j in
    rw (offset_tail s ss b bs j) (omega (signs, add_law (a +ℤ offset ss bs j) c, add_law a (offset ss bs j), add_law a (offset ss bs j +ℤ c), add_law (offset ss bs j) c))

-- what is below every breakpoint lies on the first stretch
on_first : (bs : List ℤ) (v : ℤ) → (0 < length bs → v <ℤ reading bs 0) → stretch_of bs v ≡ 0
unfolding stretch_of
on_first [] v h = refl
on_first (b ∷ bs) v h = go (le_z b v) refl
  where
    go : (t : Bool) → le_z b v ≡ t → cond t (suc (stretch_of bs v)) 0 ≡ 0
    go true e = let l = h (omega arith) in let m = le_z_true b v e in absurd (omega signs)
    go false e = refl

-- up to what all lines share, the ramp is the stretch's line
ramp_line : (ss : List ℕ) (bs : List ℤ) (v : ℤ) → length ss ≡ suc (length bs) → Rising bs → ramp 1 ss bs v ≡ (pos (get_or ss (stretch_of bs v) 0) *ℤ v +ℤ offset ss bs (stretch_of bs v)) +ℤ shared ss bs
unfolding ramp stretch_of offset shared
ramp_line [] bs v l r = absurd (omega arith)
ramp_line (s ∷ ss) [] v l r = let a = pos s *ℤ v in omega (signs, pos_law 0, add_law (a +ℤ pos 0) (pos 0), add_law a (pos 0))
ramp_line (s ∷ ss) (b ∷ bs) v l r = go (λ u. ramp_line ss bs u (omega arith) (λ i h. r (suc i) (omega arith))) (le_z b v) refl
  where
    Tail : Type 0
    Tail = (u : ℤ) → ramp 1 ss bs u ≡ (pos (get_or ss (stretch_of bs u) 0) *ℤ u +ℤ offset ss bs (stretch_of bs u)) +ℤ shared ss bs

    h : ℤ
    h = pos (get_or ss 0 0) *ℤ b

    go : Tail → (t : Bool) → le_z b v ≡ t → pos s *ℤ lower v (pos 1 *ℤ b) +ℤ ramp 1 ss bs (higher v (pos 1 *ℤ b)) ≡ (pos (get_or (s ∷ ss) (cond t (suc (stretch_of bs v)) 0) 0) *ℤ v +ℤ offset (s ∷ ss) (b ∷ bs) (cond t (suc (stretch_of bs v)) 0)) +ℤ (h +ℤ shared ss bs)
    go tail true e =
        let j = stretch_of bs v in
        let c = crossed v b (le_z_true b v e) in
        let line = pos (get_or ss j 0) *ℤ v in
        let o = offset ss bs j in
        let k = shared ss bs in
        let a = pos s *ℤ b in
        rw (scale_one b, c.0, c.1, tail v, offset_tail s ss b bs j)
        (omega (signs, add_law a (line +ℤ o +ℤ k), add_law (line +ℤ o) k, add_law line o, add_law (line +ℤ ((a -ℤ h) +ℤ o)) (h +ℤ k), add_law line ((a -ℤ h) +ℤ o), add_law (a -ℤ h) o, sub_law a h, add_law h k))
    go tail false e =
        let below = le_z_false b v e in
        let c = ordered v b (omega signs) in
        let z : stretch_of bs b ≡ 0 = on_first bs b (λ n. r 0 (omega arith)) in
        let t = rw z at (tail b) in
        let a = pos s *ℤ v in
        let k = shared ss bs in
        rw (scale_one b, c.0, c.1, t)
        (omega (signs, add_law a (h +ℤ pos 0 +ℤ k), add_law (h +ℤ pos 0) k, add_law h (pos 0), add_law (a +ℤ pos 0) (h +ℤ k), add_law a (pos 0), add_law h k, pos_law 0))

-- the current of a curve is its line's
pub curve_line_lem : (ss : List ℕ) (bs : List ℤ) (x v : ℤ) → length ss ≡ suc (length bs) → Rising bs → current 1 (curve ss bs) x v ≡ pos (get_or ss (stretch_of bs v) 0) *ℤ v +ℤ at_zero_of ss bs (stretch_of bs v)
unfolding current at_zero_of
curve_line_lem ss bs x v l r =
    let j = stretch_of bs v in
    let z = stretch_of bs (pos 0) in
    let a = pos (get_or ss j 0) *ℤ v in
    let o = offset ss bs j in
    let n = offset ss bs z in
    let k = shared ss bs in
    rw (ramp_line ss bs v l r, ramp_line ss bs (pos 0) l r, *ℤ-zero (pos (get_or ss z 0)))
    (omega (signs, sub_law (a +ℤ o +ℤ k) (pos 0 +ℤ n +ℤ k), add_law (a +ℤ o) k, add_law a o, add_law (pos 0 +ℤ n) k, add_law (pos 0) n, add_law a (o -ℤ n), sub_law o n, pos_law 0))

-- a stretch is one of the curve's
pub stretch_there : (bs : List ℤ) (v : ℤ) → stretch_of bs v ≤ length bs
unfolding stretch_of
stretch_there [] v = omega arith
stretch_there (b ∷ bs) v = go (le_z b v) (stretch_there bs v)
  where
    go : (t : Bool) → stretch_of bs v ≤ length bs → cond t (suc (stretch_of bs v)) 0 ≤ suc (length bs)
    go true h = omega arith
    go false h = omega arith
