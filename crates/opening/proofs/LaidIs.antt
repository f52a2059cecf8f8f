-- The board of a circuit's parts before anything is computed from it: its numbers, and how they are filled in. Assumes nothing.
use mathlib.Core.Path.{◌≡◌, refl, sym, ◌∙◌, ap}
use mathlib.Core.Bool.{true, false}
use mathlib.Core.List.{List, [], ◌∷◌}
use Prim.Native.Nat.{ℕ, zero, suc, ◌+◌, ◌*◌, ◌-◌, ◌/◌, ◌%◌, ◌≤◌, ◌<◌}
use native.Mathlib.Omega.{arith}
use lib.ListN.{length, get_or, replicate}
use borrow.Author.Tests.{eqb-true, ne_eqb, lt-ltb, le-ltb}
use Rattle.units.specs.Table.{padded, overlaid}
use Rattle.units.proofs.Tables.{padded_none, padded_overlaid, padded_rest}
use Rattle.network.specs.Kind.{diode_kind, has_curve}
use Rattle.image.specs.Parts.{no_element, element_of, curve_of}
use Rattle.image.specs.Conductance.{conductance_by, conductance_at}
use Rattle.image.specs.Setting.{Setting}
use Rattle.image.specs.Meaning.{leak_of}
use Rattle.image.specs.declared.parts.Element.{Element}
use Rattle.image.specs.declared.parts.Parts.{Parts}
use Rattle.circuit.specs.Board.{board_size}
use Rattle.opening.specs.Opening.{element_number, laid_number, laid_of}

-- past the count there is no element
pub none_past : (parts : Parts) (j : ℕ) → parts.element_count ≤ j → element_of parts j ≡ no_element
unfolding element_of
none_past parts j h = rw (le-ltb j parts.element_count h)

pub nothing_by : (rate : ℕ) → conductance_by 0 0 rate ≡ 0
unfolding conductance_by
nothing_by rate = refl

-- what has a curve has no conductance
pub curve_by : (kind value rate : ℕ) → has_curve kind ≡ true → conductance_by kind value rate ≡ 0
unfolding conductance_by
curve_by kind value rate e = rw (eqb-true kind diode_kind e)

-- ---- its numbers

pub element_is : (parts : Parts) (setting : Setting) (j k i : ℕ) → k < 6 → i ≡ 101 + k + 6 * j → laid_number parts setting i ≡ element_number parts setting j k
unfolding laid_number
element_is parts setting j k i hk e =
    let q : (i - 101) / 6 ≡ j = omega arith in
    let r : (i - 101) % 6 ≡ k = omega arith in
    rw (ne_eqb i 0 (omega arith), ne_eqb i 1 (omega arith), ne_eqb i 2 (omega arith), ne_eqb i 3 (omega arith), le-ltb i 101 (omega arith), q, r)

-- what is to be computed is zero
pub laid_zero : (parts : Parts) (setting : Setting) (i : ℕ) → 4 ≤ i → i < 101 → laid_number parts setting i ≡ 0
unfolding laid_number
laid_zero parts setting i low high = rw (ne_eqb i 0 (omega arith), ne_eqb i 1 (omega arith), ne_eqb i 2 (omega arith), ne_eqb i 3 (omega arith), lt-ltb i 101 high)

-- ---- filling it

module _ (parts : Parts) (setting : Setting) where
  abbrev g : ℕ → ℕ
  g = laid_number parts setting

  -- the header, and after it room for what will be computed
  pub laid_none : overlaid (replicate board_size 0) 0 (leak_of parts.version ∷ parts.nodes ∷ parts.driven ∷ parts.element_count ∷ []) ≡ padded 0 board_size g 101
  unfolding laid_number
  laid_none =
      ap (λ (l : List ℕ). overlaid l 0 (leak_of parts.version ∷ parts.nodes ∷ parts.driven ∷ parts.element_count ∷ [])) (padded_none 0 board_size g)
      ∙ padded_overlaid 0 board_size g 0 (leak_of parts.version ∷ parts.nodes ∷ parts.driven ∷ parts.element_count ∷ []) (omega arith) header
      ∙ padded_rest 0 board_size g 4 101 (omega arith) (omega arith) (laid_zero parts setting)
    where
      header : (k : ℕ) → k < 4 → get_or (leak_of parts.version ∷ parts.nodes ∷ parts.driven ∷ parts.element_count ∷ []) k 0 ≡ g (0 + k)
      header zero h = refl
      header (suc zero) h = refl
      header (suc (suc zero)) h = refl
      header (suc (suc (suc zero))) h = refl
      header (suc (suc (suc (suc k)))) h = absurd (omega arith)

  -- one element more
  pub elements_more : (j : ℕ) (values : List ℕ) → j < 32 → length values ≡ 6 → ((k : ℕ) → k < 6 → get_or values k 0 ≡ element_number parts setting j k) → overlaid (padded 0 board_size g (101 + 6 * j)) (101 + 6 * j) values ≡ padded 0 board_size g (101 + 6 * (j + 1))
  elements_more j values h six is =
      let e : 101 + 6 * j + length values ≡ 101 + 6 * (j + 1) = omega arith in
      padded_overlaid 0 board_size g (101 + 6 * j) values (omega arith) (λ k l. is k (omega arith) ∙ sym (element_is parts setting j k (101 + 6 * j + k) (omega arith) (omega arith)))
      ∙ ap (padded 0 board_size g) e

  -- its numbers, with a curve and without
  pub values_curved : (j : ℕ) (e : Element) (g m : ℕ) → e ≡ element_of parts j → g ≡ conductance_at parts setting j → has_curve e.kind ≡ true → m ≡ (curve_of parts e.curve).count → (k : ℕ) → k < 6 → get_or (e.kind ∷ e.p ∷ e.q ∷ g ∷ 17 * e.curve ∷ m ∷ []) k 0 ≡ element_number parts setting j k
  values_curved j e g m is isG t isM zero h = ap (λ (a : Element). a.kind) is
  values_curved j e g m is isG t isM (suc zero) h = ap (λ (a : Element). a.p) is
  values_curved j e g m is isG t isM (suc (suc zero)) h = ap (λ (a : Element). a.q) is
  values_curved j e g m is isG t isM (suc (suc (suc zero))) h = isG
  values_curved j e g m is isG t isM (suc (suc (suc (suc zero)))) h = rw (← is, t)
  values_curved j e g m is isG t isM (suc (suc (suc (suc (suc zero))))) h = rw (← is, t) isM
  values_curved j e g m is isG t isM (suc (suc (suc (suc (suc (suc k)))))) h = absurd (omega arith)

  pub values_straight : (j : ℕ) (e : Element) (g : ℕ) → e ≡ element_of parts j → g ≡ conductance_at parts setting j → has_curve e.kind ≡ false → (k : ℕ) → k < 6 → get_or (e.kind ∷ e.p ∷ e.q ∷ g ∷ 0 ∷ 0 ∷ []) k 0 ≡ element_number parts setting j k
  values_straight j e g is isG f zero h = ap (λ (a : Element). a.kind) is
  values_straight j e g is isG f (suc zero) h = ap (λ (a : Element). a.p) is
  values_straight j e g is isG f (suc (suc zero)) h = ap (λ (a : Element). a.q) is
  values_straight j e g is isG f (suc (suc (suc zero))) h = isG
  values_straight j e g is isG f (suc (suc (suc (suc zero)))) h = rw (← is, f)
  values_straight j e g is isG f (suc (suc (suc (suc (suc zero))))) h = rw (← is, f)
  values_straight j e g is isG f (suc (suc (suc (suc (suc (suc k)))))) h = absurd (omega arith)

  -- past the last there are zeros already
  pub elements_all : (j : ℕ) → j ≡ parts.element_count → j ≤ 32 → padded 0 board_size g (101 + 6 * j) ≡ laid_of parts setting
  unfolding laid_of
  elements_all j e few = padded_rest 0 board_size g (101 + 6 * j) board_size (omega arith) (omega arith) each
    where
      zeros : (i : ℕ) (k : ℕ) → parts.element_count ≤ i → element_number parts setting i k ≡ 0
      zeros i zero h = rw (none_past parts i h)
      zeros i (suc zero) h = rw (none_past parts i h)
      zeros i (suc (suc zero)) h = rw (none_past parts i h)
      zeros i (suc (suc (suc zero))) h = rw (none_past parts i h) (nothing_by parts.rate)
      zeros i (suc (suc (suc (suc k)))) h = let l = suc (suc (suc (suc k))) in rw (ne_eqb l 0 (omega arith), ne_eqb l 1 (omega arith), ne_eqb l 2 (omega arith), ne_eqb l 3 (omega arith), none_past parts i h)

      each : (i : ℕ) → 101 + 6 * j ≤ i → i < board_size → g i ≡ 0
      each i low high =
          let q : i ≡ 101 + (i - 101) % 6 + 6 * ((i - 101) / 6) = omega arith in
          element_is parts setting ((i - 101) / 6) ((i - 101) % 6) i (omega arith) q ∙ zeros ((i - 101) / 6) ((i - 101) % 6) (omega arith)
