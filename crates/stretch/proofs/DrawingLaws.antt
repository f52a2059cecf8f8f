-- What putting a curve into the table of stretches rests on. Assumes nothing.
use mathlib.Core.Path.{◌≡◌, refl, ◌∙◌, ap}
use mathlib.Core.List.{List, [], ◌∷◌}
use mathlib.Core.Logic.{◌⊎◌, inl, inr, ⊎_elim}
use Prim.Native.Nat.{ℕ, zero, suc, ◌+◌, ◌*◌, ◌^◌, ◌≤◌, ◌<◌}
use native.Mathlib.Numerals.{add-one}
use native.Mathlib.Omega.{arith}
use lib.IntN.{ℤ, pos, nat_abs, ◌+ℤ◌, ◌-ℤ◌, ◌*ℤ◌}
use lib.ListN.{length, get_or, set, length-set}
use lib.Seq.{get_or-set_same, get_or-set_other}
use borrow.Author.Tests.{le-leb}
use Rattle.units.specs.Voltage.{Within}
use Rattle.units.proofs.Integers.{decide_n}
use Rattle.units.proofs.Sizes.{abs_add, abs_sub}
use Rattle.units.specs.Table.{overlaid}
use Rattle.units.proofs.Tables.{tabulate-length, tabulate-at, overlaid-length, overlaid-at, overlaid-else}
use Rattle.network.specs.Network.{reading, breakpoint_limit, conductance_limit, Rising, CurveInLimits}
use Rattle.network.proofs.Ranges.{product_fits}
use Rattle.stretch.specs.Stretch.{stretch_of, offset, at_zero_of, at_zero_in, breakpoints_in, slopes_to, breakpoints_to, row_number, drawn_number, Rows, Drawn, Lowered, Filled}
use Rattle.stretch.proofs.CurveLaws.{breakpoints_from}

-- ---- a curve in arrays of its own, from which the table is filled

module _ (slopes : List ℕ) (breakpoints : List ℤ) (m : ℕ) where
  abbrev ss : List ℕ
  ss = slopes_to slopes m

  abbrev bs : List ℤ
  bs = breakpoints_to breakpoints m

  pub slope_to : (j : ℕ) → j ≤ m → get_or ss j 0 ≡ get_or slopes j 0
  unfolding slopes_to
  slope_to j h = tabulate-at (λ (i : ℕ). get_or slopes i 0) (suc m) j 0 (omega arith)

  pub breakpoint_to : (j : ℕ) → j < m → reading bs j ≡ reading breakpoints j
  unfolding breakpoints_to
  breakpoint_to j h = tabulate-at (reading breakpoints) m j (pos 0) h

  pub breakpoints_to_lem : length bs ≡ m
  unfolding breakpoints_to
  breakpoints_to_lem = tabulate-length (reading breakpoints) m

  module _ (limits : CurveInLimits ss bs) where
    pub few : m ≤ 16
    few = omega (arith, limits.few, breakpoints_to_lem)

    pub slope_small_lem : (j : ℕ) → j ≤ m → get_or slopes j 0 ≤ conductance_limit
    slope_small_lem j h = rw (← (slope_to j h)) (limits.slope j)

    pub breakpoint_small : (j : ℕ) → j < m → Within breakpoint_limit (reading breakpoints j)
    breakpoint_small j h = rw (← (breakpoint_to j h)) (limits.breakpoint j)

    -- how far one line lies above the one before
    pub step_is : (i : ℕ) → i < m → offset ss bs (i + 1) ≡ offset ss bs i +ℤ (pos (get_or slopes i 0) *ℤ reading breakpoints i -ℤ pos (get_or slopes (i + 1) 0) *ℤ reading breakpoints i)
    unfolding offset
    step_is i h = rw (add-one, slope_to i (omega arith), slope_to (suc i) (omega arith), breakpoint_to i h)

-- offsets are small
pub offset_small : (ss : List ℕ) (bs : List ℤ) → CurveInLimits ss bs → (j : ℕ) → nat_abs (offset ss bs j) ≤ j * 2 ^ 57
unfolding offset
offset_small ss bs limits zero = omega arith
offset_small ss bs limits (suc j) =
    let b = reading bs j in
    let a = pos (get_or ss j 0) *ℤ b in
    let c = pos (get_or ss (suc j) 0) *ℤ b in
    omega (
      arith,
      offset_small ss bs limits j,
      abs_add (offset ss bs j) (a -ℤ c),
      abs_sub a c,
      product_fits (get_or ss j 0) b (limits.slope j) (limits.breakpoint j),
      product_fits (get_or ss (suc j) 0) b (limits.slope (suc j)) (limits.breakpoint j),
    )

-- ---- rows in the table, one after the other

module _ (number : ℕ → ℕ → ℤ) (before : List ℤ) (first : ℕ) where
  pub rows_none : Rows number before first 0 before
  rows_none = record { long = refl; row = λ i k h. absurd (omega arith); elsewhere = λ t h. refl }

  -- one row more
  pub rows_more : (n : ℕ) (after : List ℤ) (b g z : ℤ) → 3 * (first + n) + 2 < length before → b ≡ number n 0 → g ≡ number n 1 → z ≡ number n 2 → Rows number before first n after → Rows number before first (n + 1) (overlaid after (3 * (first + n)) (b ∷ g ∷ z ∷ []))
  rows_more n after b g z there is_b isG isZ f = record {
    long = overlaid-length after at row ∙ f.long;
    row = λ i k h l. ⊎_elim (λ (q : n ≤ i). let e : i ≡ n = omega arith in rw e (overlaid-at after at row (pos 0) k _ (omega (arith, f.long)) l refl ∙ here k l)) (λ (q : i < n). other (3 * (first + i) + k) (inl (omega arith)) ∙ f.row i k q l) (decide_n n i);
    elsewhere = λ t h. other t (⊎_elim (λ (q : t < 3 * first). inl (omega arith)) (λ (q : 3 * (first + (n + 1)) ≤ t). inr (omega arith)) h) ∙ f.elsewhere t (⊎_elim (λ (q : t < 3 * first). inl q) (λ (q : 3 * (first + (n + 1)) ≤ t). inr (omega arith)) h);
  }
    where
      at : ℕ
      at = 3 * (first + n)

      row : List ℤ
      row = b ∷ g ∷ z ∷ []

      other : (t : ℕ) → (t < at) ⊎ (at + 3 ≤ t) → reading (overlaid after at row) t ≡ reading after t
      other t h = overlaid-else after at row (pos 0) t h

      here : (k : ℕ) → k < 3 → get_or row k (pos 0) ≡ number n k
      here zero l = is_b
      here (suc zero) l = isG
      here (suc (suc zero)) l = isZ
      here (suc (suc (suc k))) l = absurd (omega arith)

-- ---- lines lowered, one after the other

module _ (before : List ℤ) (first : ℕ) (current : ℤ) where
  pub lowered_none : Lowered before first 0 current before
  lowered_none = record { long = refl; line = λ i h. absurd (omega arith); elsewhere = λ t h. refl }

  -- a line that has not been lowered yet
  pub lowered_next : (n : ℕ) (after : List ℤ) → Lowered before first n current after → at_zero_in after (first + n) ≡ at_zero_in before (first + n)
  lowered_next n after f = f.elsewhere (3 * (first + n) + 2) (λ i h e. omega arith)

  pub lowered_more : (n : ℕ) (after : List ℤ) (z : ℤ) → 3 * (first + n) + 2 < length before → z ≡ at_zero_in after (first + n) -ℤ current → Lowered before first n current after → Lowered before first (n + 1) current (set after (3 * (first + n) + 2) z)
  lowered_more n after z there is f = record {
    long = length-set after at z ∙ f.long;
    line = λ i h. ⊎_elim (λ (q : n ≤ i). let e : i ≡ n = omega arith in rw e (get_or-set_same after at z (pos 0) (omega (arith, f.long)) ∙ is ∙ ap (λ (y : ℤ). y -ℤ current) (lowered_next n after f))) (λ (q : i < n). get_or-set_other after at (3 * (first + i) + 2) z (pos 0) (λ e. omega arith) ∙ f.line i q) (decide_n n i);
    elsewhere = λ t h. get_or-set_other after at t z (pos 0) (λ e. h n (omega arith) e) ∙ f.elsewhere t (λ i l. h i (omega arith));
  }
    where
      at : ℕ
      at = 3 * (first + n) + 2

-- ---- the whole of it: drawn, then lowered by what the line of zero volts' own stretch has there

module _ (ss : List ℕ) (bs : List ℤ) (m : ℕ) (long : length bs ≡ m) (before mid : List ℤ) (first : ℕ) (drawn : Drawn ss bs before first (m + 1) mid) where
  pub drawn_breakpoints : breakpoints_in mid first m ≡ bs
  unfolding drawn_number
  drawn_breakpoints = breakpoints_from mid first m bs long (λ i h. drawn.row i 0 (omega arith) (omega arith))

  pub drawn_line : (i : ℕ) → i ≤ m → at_zero_in mid (first + i) ≡ offset ss bs i
  unfolding drawn_number
  drawn_line i h = drawn.row i 2 (omega arith) (omega arith)

  module _ (limits : CurveInLimits ss bs) where
    pub drawn_rising : Rising (breakpoints_in mid first m)
    drawn_rising = rw drawn_breakpoints limits.rising

    -- two lines are close enough to be taken from each other
    pub drawn_close : (i j : ℕ) → i ≤ m → j ≤ m → nat_abs (at_zero_in mid (first + i)) + nat_abs (at_zero_in mid (first + j)) < 2 ^ 63
    drawn_close i j h l = rw (drawn_line i h, drawn_line j l) (omega (arith, offset_small ss bs limits i, offset_small ss bs limits j, limits.few, long))

  pub lowered_fills : (z : ℕ) (after : List ℤ) → z ≡ stretch_of bs (pos 0) → z ≤ m → Lowered mid first (m + 1) (at_zero_in mid (first + z)) after → Filled ss bs before first (m + 1) after
  unfolding row_number drawn_number at_zero_of
  lowered_fills z after is there f = record {
    long = f.long ∙ drawn.long;
    row = number;
    elsewhere = λ t h. f.elsewhere t (λ i l e. ⊎_elim (λ (q : t < 3 * first). omega arith) (λ (q : 3 * (first + (m + 1)) ≤ t). omega arith) h) ∙ drawn.elsewhere t h;
  }
    where
      number : (i k : ℕ) → i < m + 1 → k < 3 → reading after (3 * (first + i) + k) ≡ row_number ss bs i k
      number i zero h l = f.elsewhere (3 * (first + i) + 0) (λ j q e. omega arith) ∙ drawn.row i 0 h l
      number i (suc zero) h l = f.elsewhere (3 * (first + i) + 1) (λ j q e. omega arith) ∙ drawn.row i 1 h l
      number i (suc (suc zero)) h l = rw (le-leb i (length bs) (omega arith), ← is, ← (drawn_line i (omega arith)), ← (drawn_line z there)) (f.line i h)
      number i (suc (suc (suc k))) h l = absurd (omega arith)
