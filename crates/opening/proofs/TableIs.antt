-- The table of a circuit's stretches has its curves in it, ready to be evaluated. Assumes nothing.
use mathlib.Core.Path.{◌≡◌, refl, sym, ◌∙◌, ap}
use mathlib.Core.List.{List}
use mathlib.Core.Logic.{inl, inr, ⊎_elim}
use Prim.Native.Nat.{ℕ, zero, suc, ◌+◌, ◌*◌, ◌/◌, ◌%◌, ◌≤◌, ◌<◌}
use native.Mathlib.Omega.{arith}
use lib.IntN.{ℤ, pos, nat_abs}
use lib.ListN.{length, get_or, get_or-eq_default}
use lib.Seq.{ext_get_or}
use borrow.Author.Tests.{ne_eqb, le-leb, lt-leb, le-ltb}
use Rattle.units.specs.Table.{tabulate, padded}
use Rattle.units.proofs.Integers.{decide_n}
use Rattle.units.proofs.Tables.{tabulate-length, padded_at, padded_past, padded_length, padded_is, padded_rest}
use Rattle.network.specs.Network.{reading, CurveInLimits}
use Rattle.image.specs.Parts.{no_curve, curve_of, slopes_of, breakpoints_of}
use Rattle.image.specs.declared.parts.Curve.{Curve}
use Rattle.image.specs.declared.parts.Parts.{Parts}
use Rattle.stretch.specs.Stretch.{stretches_size, offset, at_zero_of, stretch_of, slopes_in, breakpoints_in, slopes_to, breakpoints_to, row_number, CurveReady, Filled}
use Rattle.stretch.proofs.CurveLaws.{slopes_in_lem, slope_in_lem, breakpoints_from}
use Rattle.opening.specs.Opening.{table_number, stretches_of}

-- a curve's lists are those that the table is filled from
pub slopes_same : (c : Curve) → slopes_to c.slopes c.count ≡ slopes_of c
unfolding slopes_to slopes_of
slopes_same c = refl

pub breakpoints_same : (c : Curve) → breakpoints_to c.breakpoints c.count ≡ breakpoints_of c
unfolding breakpoints_to breakpoints_of
breakpoints_same c = refl

pub breakpoints_long : (c : Curve) → length (breakpoints_of c) ≡ c.count
unfolding breakpoints_of
breakpoints_long c = tabulate-length (reading c.breakpoints) c.count

slopes_long : (c : Curve) → length (slopes_of c) ≡ suc c.count
unfolding slopes_of
slopes_long c = tabulate-length (λ (j : ℕ). get_or c.slopes j 0) (suc c.count)

-- past a curve's last stretch its rows are zeros
row_past : (c : Curve) (i k : ℕ) → c.count < i → row_number (slopes_of c) (breakpoints_of c) i k ≡ pos 0
unfolding row_number
row_past c i zero h = get_or-eq_default (breakpoints_of c) (pos 0) (omega (arith, breakpoints_long c))
row_past c i (suc zero) h = ap pos (get_or-eq_default (slopes_of c) 0 (omega (arith, slopes_long c)))
row_past c i (suc (suc k)) h = rw (ne_eqb (suc (suc k)) 0 (omega arith), ne_eqb (suc (suc k)) 1 (omega arith), lt-leb i (length (breakpoints_of c)) (omega (arith, breakpoints_long c)))

-- and so are all rows of no curve
row_none : (i k : ℕ) → row_number (slopes_of no_curve) (breakpoints_of no_curve) i k ≡ pos 0
unfolding row_number at_zero_of offset stretch_of slopes_of breakpoints_of tabulate
row_none zero zero = refl
row_none zero (suc zero) = refl
row_none zero (suc (suc k)) = rw (ne_eqb (suc (suc k)) 0 (omega arith), ne_eqb (suc (suc k)) 1 (omega arith))
row_none (suc i) k = row_past no_curve (suc i) k (omega arith)

module _ (parts : Parts) where
  -- number k of stretch i of curve c
  number_is : (c i k t : ℕ) → i < 17 → k < 3 → t ≡ 3 * (17 * c + i) + k → table_number parts t ≡ row_number (slopes_of (curve_of parts c)) (breakpoints_of (curve_of parts c)) i k
  unfolding table_number
  number_is c i k t hi hk e =
      let q : t / 51 ≡ c = omega arith in
      let r : t % 51 ≡ 3 * i + k = omega arith in
      let s : (3 * i + k) / 3 ≡ i = omega arith in
      let u : t % 3 ≡ k = omega arith in
      rw (q, r, s, u)

  pub row_at : (c i k : ℕ) → c < 8 → i < 17 → k < 3 → reading (stretches_of parts) (3 * (17 * c + i) + k) ≡ row_number (slopes_of (curve_of parts c)) (breakpoints_of (curve_of parts c)) i k
  unfolding stretches_of
  row_at c i k hc hi hk =
      padded_at (pos 0) stretches_size (table_number parts) stretches_size (3 * (17 * c + i) + k) (omega arith) (omega arith)
      ∙ number_is c i k (3 * (17 * c + i) + k) hi hk refl

  -- ---- a curve of the circuit in its table

  module _ (c : ℕ) (there : c < 8) (few : (curve_of parts c).count ≤ 16) where
    abbrev m : ℕ
    m = (curve_of parts c).count

    pub slopes_are : slopes_in (stretches_of parts) (17 * c) m ≡ slopes_of (curve_of parts c)
    unfolding row_number
    slopes_are =
        ext_get_or 0 (slopes_in (stretches_of parts) (17 * c) m) (slopes_of (curve_of parts c)) (slopes_in_lem (stretches_of parts) (17 * c) m ∙ sym (slopes_long (curve_of parts c)))
        (λ i h. each i (omega (arith, slopes_in_lem (stretches_of parts) (17 * c) m)))
      where
        each : (i : ℕ) → i ≤ m → get_or (slopes_in (stretches_of parts) (17 * c) m) i 0 ≡ get_or (slopes_of (curve_of parts c)) i 0
        each i h = slope_in_lem (stretches_of parts) (17 * c) m i h ∙ ap nat_abs (row_at c i 1 there (omega arith) (omega arith))

    pub breakpoints_are : breakpoints_in (stretches_of parts) (17 * c) m ≡ breakpoints_of (curve_of parts c)
    unfolding row_number
    breakpoints_are = breakpoints_from (stretches_of parts) (17 * c) m (breakpoints_of (curve_of parts c)) (breakpoints_long (curve_of parts c)) (λ i h. row_at c i 0 there (omega arith) (omega arith))

    pub curve_ready : CurveInLimits (slopes_of (curve_of parts c)) (breakpoints_of (curve_of parts c)) → CurveReady (stretches_of parts) (17 * c) m
    unfolding row_number
    curve_ready limits = record {
      there = omega arith;
      limits = rw (slopes_are, breakpoints_are) limits;
      at_zero = λ i h. row_at c i 2 there (omega arith) (omega arith) ∙ third i h ∙ rw (slopes_are, breakpoints_are);
    }
      where
        third : (i : ℕ) → i ≤ m → row_number (slopes_of (curve_of parts c)) (breakpoints_of (curve_of parts c)) i 2 ≡ at_zero_of (slopes_of (curve_of parts c)) (breakpoints_of (curve_of parts c)) i
        third i h = rw (le-leb i (length (breakpoints_of (curve_of parts c))) (omega (arith, breakpoints_long (curve_of parts c))))

  -- ---- filling it, one curve after the other

  -- a place of curve k's rows, taken apart
  number_at : (k t : ℕ) → 51 * k ≤ t → t < 51 * (k + 1) → (i n : ℕ) × (i < 17) × (n < 3) × (t ≡ 3 * (17 * k + i) + n)
  number_at k t low high = (t % 51 / 3, t % 3, omega arith, omega arith, omega arith)

  pub table_more : (k : ℕ) (before after : List ℤ) → k < 8 → (curve_of parts k).count ≤ 16 → before ≡ padded (pos 0) stretches_size (table_number parts) (51 * k) → Filled (slopes_of (curve_of parts k)) (breakpoints_of (curve_of parts k)) before (17 * k) ((curve_of parts k).count + 1) after → after ≡ padded (pos 0) stretches_size (table_number parts) (51 * (k + 1))
  table_more k before after hk few is f =
      padded_is (pos 0) stretches_size (table_number parts) after (51 * (k + 1)) (omega arith) (f.long ∙ ap length is ∙ padded_length (pos 0) stretches_size (table_number parts) (51 * k)) filled rest
    where
      cv : Curve
      cv = curve_of parts k

      was : (t : ℕ) → 51 * k ≤ t → reading before t ≡ pos 0
      was t h = rw is (padded_past (pos 0) stretches_size (table_number parts) (51 * k) t h)

      here : (t i n : ℕ) → i < 17 → n < 3 → t ≡ 3 * (17 * k + i) + n → reading after t ≡ table_number parts t
      here t i n hi hn e =
          ⊎_elim
          (λ (q : cv.count < i). f.elsewhere t (inr (omega arith)) ∙ was t (omega arith) ∙ sym (number_is k i n t hi hn e ∙ row_past cv i n q))
          (λ (q : i < suc cv.count). rw e (f.row i n (omega arith) hn) ∙ sym (number_is k i n t hi hn e))
          (decide_n (suc cv.count) i)

      filled : (t : ℕ) → t < 51 * (k + 1) → reading after t ≡ table_number parts t
      filled t h =
          ⊎_elim
          (λ (q : 51 * k ≤ t). let a = number_at k t q h in here t a.0 a.1 a.2 a.3 a.4)
          (λ (q : t < 51 * k). f.elsewhere t (inl (omega arith)) ∙ rw is (padded_at (pos 0) stretches_size (table_number parts) (51 * k) t (omega arith) q))
          (decide_n (51 * k) t)

      rest : (t : ℕ) → 51 * (k + 1) ≤ t → reading after t ≡ pos 0
      rest t h = f.elsewhere t (inr (omega arith)) ∙ was t (omega arith)

  -- past the last curve there are zeros already
  pub table_all : (k : ℕ) → k ≡ parts.curve_count → k ≤ 8 → padded (pos 0) stretches_size (table_number parts) (51 * k) ≡ stretches_of parts
  unfolding stretches_of table_number curve_of
  table_all k e few = padded_rest (pos 0) stretches_size (table_number parts) (51 * k) stretches_size (omega arith) (omega arith) (λ t low high. rw (le-ltb (t / 51) parts.curve_count (omega arith)) (row_none (t % 51 / 3) (t % 3)))
