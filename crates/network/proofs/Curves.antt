-- A curve in document 01's words: zero at zero volts, and from v to v + 1 it rises by the slope of the stretch that v lies in. So it never falls,
-- and rises by at most its greatest slope. Assumes nothing.
use mathlib.Core.Path.{◌≡◌, refl, sym, ◌∙◌, ap}
use mathlib.Core.List.{List, [], ◌∷◌}
use Prim.Native.Nat.{ℕ, zero, suc, ◌*◌, ◌≤◌, ◌<◌}
use native.Mathlib.Nat.{mul-zero, mul-suc}
use native.Mathlib.Omega.{arith}
use lib.ListN.{length, get_or}
use lib.IntN.{*ℤ-zero, ℤ, pos, ◌+ℤ◌, ◌-ℤ◌, ◌*ℤ◌}
use lib.Signed.{◌≤ℤ◌, ◌<ℤ◌}
use Rattle.units.specs.Integer.{lower, higher}
use Rattle.units.proofs.Integers.{signs, add_law, sub_law, pos_law, scale_law, scale_mono, scale_gap, scale_one, scale_scale, scale_add, scale_lower, scale_higher, lower_mono, higher_mono, both_scale, ordered, crossed}
use Rattle.network.specs.Network.{curve, reading, ramp, current, greatest}

module _ (k : ℕ) where
  pub ramp_mono : (ss : List ℕ) (bs : List ℤ) (v u : ℤ) → v ≤ℤ u → ramp k ss bs v ≤ℤ ramp k ss bs u
  unfolding ramp
  ramp_mono [] bs v u h = omega signs
  ramp_mono (s ∷ ss) [] v u h = scale_mono s v u h
  ramp_mono (s ∷ ss) (b ∷ bs) v u h =
      let c = pos k *ℤ b in
      let l = scale_mono s _ _ (lower_mono v u c h) in
      let r = ramp_mono ss bs _ _ (higher_mono v u c h) in
      omega (signs, add_law (pos s *ℤ lower v c) (ramp k ss bs (higher v c)), add_law (pos s *ℤ lower u c) (ramp k ss bs (higher u c)))

  -- S v less the curve never falls either
  pub ramp_steep : (S : ℕ) (ss : List ℕ) (bs : List ℤ) (v u : ℤ) → greatest ss ≤ S → v ≤ℤ u → (ramp k ss bs u +ℤ pos S *ℤ v) ≤ℤ (ramp k ss bs v +ℤ pos S *ℤ u)
  unfolding ramp greatest
  ramp_steep S [] bs v u l h = omega (signs, scale_mono S v u h, add_law (pos 0) (pos S *ℤ v), add_law (pos 0) (pos S *ℤ u))
  ramp_steep S (s ∷ ss) [] v u l h = scale_gap s S v u (omega arith) h
  ramp_steep S (s ∷ ss) (b ∷ bs) v u l h =
      let c = pos k *ℤ b in
      let lo = scale_gap s S _ _ (omega arith) (lower_mono v u c h) in
      let hi = ramp_steep S ss bs _ _ (omega arith) (higher_mono v u c h) in
      omega (
        signs,
        add_law (pos s *ℤ lower u c) (ramp k ss bs (higher u c)),
        add_law (pos s *ℤ lower v c) (ramp k ss bs (higher v c)),
        add_law (pos s *ℤ lower u c +ℤ ramp k ss bs (higher u c)) (pos S *ℤ v),
        add_law (pos s *ℤ lower v c +ℤ ramp k ss bs (higher v c)) (pos S *ℤ u),
        add_law (pos s *ℤ lower u c) (pos S *ℤ lower v c),
        add_law (pos s *ℤ lower v c) (pos S *ℤ lower u c),
        add_law (ramp k ss bs (higher u c)) (pos S *ℤ higher v c),
        add_law (ramp k ss bs (higher v c)) (pos S *ℤ higher u c),
        both_scale S v c,
        both_scale S u c,
      )

  -- k times the voltage on the grid of k-ths gives k times the current
  pub ramp_scale : (ss : List ℕ) (bs : List ℤ) (v : ℤ) → ramp k ss bs (pos k *ℤ v) ≡ pos k *ℤ ramp 1 ss bs v
  unfolding ramp
  ramp_scale [] bs v = sym (*ℤ-zero (pos k))
  ramp_scale (s ∷ ss) [] v = scale_scale s k v
  ramp_scale (s ∷ ss) (b ∷ bs) v =
      rw (scale_one b, scale_lower k v b, scale_higher k v b, ramp_scale ss bs (higher v b), scale_scale s k (lower v b), scale_add k (pos s *ℤ lower v b) (ramp 1 ss bs (higher v b)))

  one_more : (s : ℕ) (v : ℤ) → pos s *ℤ (v +ℤ pos 1) ≡ pos s *ℤ v +ℤ pos s
  one_more s v = scale_add s v (pos 1) ∙ ap (λ (z : ℤ). pos s *ℤ v +ℤ z) (omega (signs, scale_law s (pos 1), pos_law s, ap (λ (n : ℕ). s * n) (pos_law 1).0, ap (λ (n : ℕ). s * n) (pos_law 1).1))

  ramp_slope : (ss : List ℕ) (bs : List ℤ) (v : ℤ) (j : ℕ) → j ≤ length bs → ((i : ℕ) → i < j → (pos k *ℤ reading bs i) ≤ℤ v) → (j < length bs → v <ℤ (pos k *ℤ reading bs j)) → ramp k ss bs (v +ℤ pos 1) ≡ ramp k ss bs v +ℤ pos (get_or ss j 0)
  unfolding ramp
  ramp_slope [] bs v j l before after = refl
  ramp_slope (s ∷ ss) [] v zero l before after = one_more s v
  ramp_slope (s ∷ ss) [] v (suc j) l before after = absurd (omega arith)
  ramp_slope (s ∷ ss) (b ∷ bs) v zero l before after =
      let c = pos k *ℤ b in
      let f = ramp k ss bs in
      let h : v <ℤ c = after (omega arith) in
      let x = ordered (v +ℤ pos 1) c (omega (signs, add_law v (pos 1), pos_law 1)) in
      let y = ordered v c (omega signs) in
      rw (x.0, x.1, y.0, y.1, one_more s v) (omega (signs, add_law (pos s *ℤ v +ℤ pos s) (f c), add_law (pos s *ℤ v) (pos s), add_law (pos s *ℤ v) (f c), add_law (pos s *ℤ v +ℤ f c) (pos s)))
  ramp_slope (s ∷ ss) (b ∷ bs) v (suc j) l before after =
      let c = pos k *ℤ b in
      let f = ramp k ss bs in
      let d = pos (get_or ss j 0) in
      let h : c ≤ℤ v = before 0 (omega arith) in
      let x = crossed (v +ℤ pos 1) c (omega (signs, add_law v (pos 1), pos_law 1)) in
      let y = crossed v c h in
      let e = ramp_slope ss bs v j (omega arith) (λ i m. before (suc i) (omega arith)) (λ m. after (omega arith)) in
      rw (x.0, x.1, y.0, y.1, e) (omega (signs, add_law (pos s *ℤ c) (f v +ℤ d), add_law (f v) d, add_law (pos s *ℤ c) (f v), add_law (pos s *ℤ c +ℤ f v) d))

  module _ (ss : List ℕ) (bs : List ℤ) (x : ℤ) where
    pub curve_zero : current k (curve ss bs) x (pos 0) ≡ pos 0
    unfolding current
    curve_zero = omega (signs, sub_law (ramp k ss bs (pos 0)) (ramp k ss bs (pos 0)), pos_law 0)

    -- slope j holds where the breakpoints before number j lie at or below v, and number j, if there is one, above it
    pub curve_slope : (v : ℤ) (j : ℕ) → j ≤ length bs → ((i : ℕ) → i < j → (pos k *ℤ reading bs i) ≤ℤ v) → (j < length bs → v <ℤ (pos k *ℤ reading bs j)) → current k (curve ss bs) x (v +ℤ pos 1) ≡ current k (curve ss bs) x v +ℤ pos (get_or ss j 0)
    unfolding current
    curve_slope v j l before after =
        let f = ramp k ss bs in
        let d = pos (get_or ss j 0) in
        omega (signs, ramp_slope ss bs v j l before after, add_law (f v) d, sub_law (f (v +ℤ pos 1)) (f (pos 0)), sub_law (f v) (f (pos 0)), add_law (f v -ℤ f (pos 0)) d)

    -- so within a stretch it rises by its slope times the way
    pub curve_straight : (v : ℤ) (j d : ℕ) → j ≤ length bs → ((i : ℕ) → i < j → (pos k *ℤ reading bs i) ≤ℤ v) → (j < length bs → (v +ℤ pos d) ≤ℤ (pos k *ℤ reading bs j)) → current k (curve ss bs) x (v +ℤ pos d) ≡ current k (curve ss bs) x v +ℤ pos (get_or ss j 0 * d)
    curve_straight v j zero l before after =
        let f = current k (curve ss bs) x in
        let s = get_or ss j 0 in
        let none : s * 0 ≡ 0 = mul-zero s in
        let here : v +ℤ pos 0 ≡ v = omega (signs, add_law v (pos 0), pos_law 0) in
        rw (none, here) (omega (signs, add_law (f v) (pos 0), pos_law 0))
    curve_straight v j (suc d) l before after =
        let f = current k (curve ss bs) x in
        let s = get_or ss j 0 in
        let u = v +ℤ pos d in
        let here = add_law v (pos d) in
        let there = add_law v (pos (suc d)) in
        let next : v +ℤ pos (suc d) ≡ u +ℤ pos 1 = omega (signs, here, there, add_law u (pos 1), pos_law d, pos_law (suc d), pos_law 1) in
        let rise = curve_slope u j l (λ i h. omega (signs, here, pos_law d, before i h)) (λ h. omega (signs, here, there, pos_law d, pos_law (suc d), after h)) in
        let rest = curve_straight v j d l before (λ h. omega (signs, here, there, pos_law d, pos_law (suc d), after h)) in
        rw next (omega (signs, rise, rest, add_law (f u) (pos s), add_law (f v) (pos (s * d)), add_law (f v) (pos (s * suc d)), pos_law s, pos_law (s * d), pos_law (s * suc d), mul-suc s d))
