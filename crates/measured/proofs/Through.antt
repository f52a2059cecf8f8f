-- The curve of a measured list is the one that document 02 describes, and there is no other. Assumes nothing.
use mathlib.Core.Path.{◌≡◌, sym, ◌∙◌, ap}
use mathlib.Core.List.{List}
use mathlib.Core.Logic.{⊎_elim}
use Prim.Native.Nat.{ℕ, zero, suc, ◌+◌, ◌*◌, ◌-◌, ◌≤◌, ◌<◌}
use native.Mathlib.Nat.{div-eq_of_lt-le, suc-mul}
use native.Mathlib.Numerals.{add-one}
use native.Mathlib.Omega.{arith}
use lib.IntN.{ℤ, pos, ◌+ℤ◌, ◌*ℤ◌}
use lib.ListN.{length, get_or}
use lib.Seq.{ext_get_or}
use Rattle.units.proofs.Integers.{signs, pos_law, add_law, scale_one, decide_n}
use Rattle.units.proofs.Tables.{tabulate-length, tabulate-at, padded_at}
use Rattle.network.specs.Network.{reading, breakpoint_count_limit}
use Rattle.network.proofs.Curves.{curve_zero, curve_straight}
use Rattle.image.specs.Parts.{slopes_of, breakpoints_of}
use Rattle.image.specs.declared.parts.Curve.{Curve}
use Rattle.measured.specs.Measured.{size_at, width_after, largest, reached, slope_at, curve_of}
use Rattle.measured.specs.Through.{current_at, Through}
use Rattle.measured.proofs.PairLaws.{PairsSay, volt_size, amp_size, wider, reached_most, reached_more, reached_next}

-- ---- a curve as lists

module _ (c : Curve) where
  pub slope_of_lem : (j : ℕ) → j ≤ c.count → get_or (slopes_of c) j 0 ≡ get_or c.slopes j 0
  unfolding slopes_of
  slope_of_lem j h = tabulate-at (λ (i : ℕ). get_or c.slopes i 0) (suc c.count) j 0 (omega arith)

  pub breakpoint_of_lem : (j : ℕ) → j < c.count → reading (breakpoints_of c) j ≡ reading c.breakpoints j
  unfolding breakpoints_of
  breakpoint_of_lem j h = tabulate-at (reading c.breakpoints) c.count j (pos 0) h

  pub breakpoints_many : length (breakpoints_of c) ≡ c.count
  unfolding breakpoints_of
  breakpoints_many = tabulate-length (reading c.breakpoints) c.count

  pub slopes_many : length (slopes_of c) ≡ suc c.count
  unfolding slopes_of
  slopes_many = tabulate-length (λ (i : ℕ). get_or c.slopes i 0) (suc c.count)

module _ (volts amps : List ℤ) (say : PairsSay volts amps) where
  -- voltages that stand further on are no lower
  up_to : (i d : ℕ) → i + d < length volts → size_at volts i ≤ size_at volts (i + d)
  up_to i zero h =
      let e : i + 0 ≡ i = omega arith in
      rw e (omega arith)
  up_to i (suc d) h =
      let e : i + suc d ≡ suc (i + d) = omega arith in
      rw e (omega (arith, up_to i d (omega arith), wider volts amps say (i + d) (omega arith)))

  not_before : (i j : ℕ) → i ≤ j → j < length volts → size_at volts i ≤ size_at volts j
  not_before i j l h =
      let e : i + (j - i) ≡ j = omega arith in
      rw e at (up_to i (j - i) (omega arith))

  -- ---- a curve whose breakpoints are the voltages of all pairs but the last

  module _ (c : Curve) (many : suc c.count ≡ length volts) (at : (j : ℕ) → j < c.count → reading c.breakpoints j ≡ reading volts j) where
    breakpoint_is : (j : ℕ) → j < c.count → pos 1 *ℤ reading (breakpoints_of c) j ≡ pos (size_at volts j)
    breakpoint_is j h = scale_one (reading (breakpoints_of c) j) ∙ breakpoint_of_lem c j h ∙ at j h ∙ volt_size volts amps say j (omega (arith, many))

    none_at_zero : current_at c (reading volts 0) ≡ pos 0
    none_at_zero =
        let e : reading volts 0 ≡ pos 0 = volt_size volts amps say 0 (omega (arith, many)) ∙ ap pos say.zero_volts in
        rw e (curve_zero 1 (slopes_of c) (breakpoints_of c) (pos 0))

    -- from pair to pair it rises by the stretch's slope times its width
    pub along : (j : ℕ) → j < c.count → current_at c (reading volts (suc j)) ≡ current_at c (reading volts j) +ℤ pos (get_or c.slopes (suc j) 0 * width_after volts j)
    along j h =
        let there = volt_size volts amps say j (omega (arith, many)) in
        let w = width_after volts j in
        let next : reading volts (suc j) ≡ reading volts j +ℤ pos w =
        omega (signs, there, volt_size volts amps say (suc j) (omega (arith, many)), wider volts amps say j (omega (arith, many)), add_law (reading volts j) (pos w), pos_law w, pos_law (size_at volts j), pos_law (size_at volts (suc j))) in
        let straight =
        curve_straight 1 (slopes_of c) (breakpoints_of c) (pos 0) (reading volts j) (suc j) w
        (omega (arith, breakpoints_many c))
        (λ i l. omega (signs, there, breakpoint_is i (omega arith), not_before i j (omega arith) (omega (arith, many)), pos_law (size_at volts i), pos_law (size_at volts j)))
        (λ l. let l' : suc j < c.count = omega (arith, breakpoints_many c) in omega (signs, next, breakpoint_is (suc j) l', volt_size volts amps say (suc j) (omega (arith, many)))) in
        ap (current_at c) next ∙ straight ∙ ap (λ (s : ℕ). current_at c (reading volts j) +ℤ pos (s * w)) (slope_of_lem c (suc j) (omega arith))

    -- ---- such a curve has reached what the definition says, as far as its slopes are those of the definition

    pub reaches : (n : ℕ) → n ≤ c.count → ((j : ℕ) → j < n → get_or c.slopes (suc j) 0 ≡ slope_at volts amps (suc j)) → current_at c (reading volts n) ≡ pos (reached volts amps n)
    unfolding reached slope_at
    reaches zero h is = none_at_zero
    reaches (suc n) h is =
        let r = reached volts amps n in
        let w = width_after volts n in
        let s = largest r (size_at amps (suc n)) w in
        let e : get_or c.slopes (suc n) 0 ≡ s = is n (omega arith) in
        along n (omega arith) ∙ rw (e, reaches n (omega arith) (λ j l. is j (omega arith))) (omega (signs, add_law (pos r) (pos (s * w)), pos_law r, pos_law (s * w), pos_law (r + s * w)))

-- ---- the curve of the definition

module _ (volts amps : List ℤ) (say : PairsSay volts amps) where
  abbrev c : Curve
  c = curve_of volts amps

  pub many : suc c.count ≡ length volts
  unfolding curve_of
  many = omega (arith, say.some)

  pub breakpoint_at_lem : (j : ℕ) → j < c.count → reading c.breakpoints j ≡ reading volts j
  unfolding curve_of
  breakpoint_at_lem j h = padded_at (pos 0) breakpoint_count_limit (reading volts) (length volts - 1) j (omega (arith, say.few)) h

  pub slope_at_lem : (j : ℕ) → j ≤ c.count → get_or c.slopes j 0 ≡ slope_at volts amps j
  unfolding curve_of
  slope_at_lem j h = padded_at 0 (suc breakpoint_count_limit) (slope_at volts amps) (length volts) j say.few (omega (arith, say.some))

  has_reached : (n : ℕ) → n ≤ c.count → current_at c (reading volts n) ≡ pos (reached volts amps n)
  has_reached n h = reaches volts amps say c many breakpoint_at_lem n h (λ j l. slope_at_lem (suc j) (omega arith))

  -- it is one of those that document 02 describes
  pub through : Through volts amps c
  unfolding slope_at
  through = record {
    many = many;
    breakpoints = breakpoint_at_lem;
    below = slope_at_lem 0 (omega arith);
    at_most = λ j h. omega (signs, has_reached (suc j) h, amp_size volts amps say (suc j) (omega (arith, many)), reached_most volts amps say (suc j) (omega (arith, many)), pos_law (reached volts amps (suc j)), pos_law (size_at amps (suc j)));
    largest =
        λ j h.
        let w = width_after volts j in
        let s = get_or c.slopes (suc j) 0 in
        let r = reached volts amps j in
        let more : reached volts amps (suc j) ≡ r + s * w = rw (slope_at_lem (suc j) h) (reached_more volts amps j) in
        omega (signs, has_reached j (omega arith), amp_size volts amps say (suc j) (omega (arith, many)), reached_next volts amps say j (omega (arith, many)), more, suc-mul s w, add_law (current_at c (reading volts j)) (pos (suc s * w)), pos_law (suc s * w), pos_law r, pos_law (size_at amps (suc j)));
    short = λ j h. let w = width_after volts j in omega (signs, has_reached (suc j) h, amp_size volts amps say (suc j) (omega (arith, many)), reached_next volts amps say j (omega (arith, many)), add_law (current_at c (reading volts (suc j))) (pos w), pos_law w, pos_law (reached volts amps (suc j)), pos_law (size_at amps (suc j)));
  }

  -- and there is no other
  module _ (d : Curve) (t : Through volts amps d) where
    count_is : d.count ≡ c.count
    count_is = omega (arith, t.many, many)

    -- the slope after the pairs up to which they agree is the quotient: it passes nothing, and one more does
    next_agrees : (n : ℕ) → n < d.count → ((j : ℕ) → j < n → get_or d.slopes (suc j) 0 ≡ slope_at volts amps (suc j)) → get_or d.slopes (suc n) 0 ≡ slope_at volts amps (suc n)
    unfolding slope_at
    next_agrees n h before =
        let w = width_after volts n in
        let s = get_or d.slopes (suc n) 0 in
        let r = reached volts amps n in
        let to = size_at amps (suc n) in
        let here : current_at d (reading volts n) ≡ pos r = reaches volts amps say d t.many t.breakpoints n (omega arith) before in
        let measured = amp_size volts amps say (suc n) (omega (arith, t.many)) in
        let most : r + s * w ≤ to =
        omega (signs, t.at_most n h, along volts amps say d t.many t.breakpoints n h, here, measured, add_law (current_at d (reading volts n)) (pos (s * w)), pos_law (s * w), pos_law r, pos_law to) in
        let past : to < r + suc s * w =
        omega (signs, t.largest n h, here, measured, add_law (current_at d (reading volts n)) (pos (suc s * w)), pos_law (suc s * w), pos_law r, pos_law to) in
        sym (div-eq_of_lt-le {k = s} w {m = to - r} (omega arith) (rw (add-one s) (omega arith)))

    agrees : (n : ℕ) → n ≤ d.count → (j : ℕ) → j < n → get_or d.slopes (suc j) 0 ≡ slope_at volts amps (suc j)
    agrees zero h j l = absurd (omega arith)
    agrees (suc n) h j l =
        ⊎_elim
        (λ (q : n ≤ j). let e : j ≡ n = omega arith in rw e (next_agrees n h (agrees n (omega arith))))
        (λ (q : j < n). agrees n (omega arith) j q)
        (decide_n n j)

    slope_agrees : (j : ℕ) → j ≤ d.count → get_or d.slopes j 0 ≡ get_or c.slopes j 0
    unfolding slope_at
    slope_agrees zero h = t.below ∙ sym (slope_at_lem 0 (omega arith))
    slope_agrees (suc j) h = agrees d.count (omega arith) j h ∙ sym (slope_at_lem (suc j) (omega (arith, count_is)))

    pub through_once : (slopes_of d ≡ slopes_of c) × (breakpoints_of d ≡ breakpoints_of c)
    through_once =
        let slopes = slopes_many d in
        let breakpoints = breakpoints_many d in (
          ext_get_or 0 (slopes_of d) (slopes_of c) (omega (arith, slopes, slopes_many c, count_is))
              (λ i h. let l : i ≤ d.count = omega (arith, slopes) in slope_of_lem d i l ∙ slope_agrees i l ∙ sym (slope_of_lem c i (omega (arith, count_is)))),
          ext_get_or (pos 0) (breakpoints_of d) (breakpoints_of c) (omega (arith, breakpoints, breakpoints_many c, count_is))
              (λ i h. let l : i < d.count = omega (arith, breakpoints) in breakpoint_of_lem d i l ∙ t.breakpoints i l ∙ sym (breakpoint_of_lem c i (omega (arith, count_is)) ∙ breakpoint_at_lem i (omega (arith, count_is)))),
        )
