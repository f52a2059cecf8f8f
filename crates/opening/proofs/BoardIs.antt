-- The board of a circuit's parts means their network, and is ready. Assumes nothing.
use mathlib.Core.Path.{◌≡◌, refl, sym, ◌∙◌, ap, fun_ext}
use mathlib.Core.Bool.{Bool, true, false, cond}
use mathlib.Core.List.{List}
use mathlib.Core.Logic.{◌⊎◌, inl, inr, ⊎_elim}
use Prim.Native.Nat.{ℕ, ◌+◌, ◌*◌, ◌-◌, ◌≤◌, ◌<◌}
use native.Mathlib.Omega.{arith}
use lib.Dec.{eqb, ltb}
use lib.IntN.{ℤ}
use lib.ListN.{length, get_or, set, length-set}
use lib.Seq.{ext_get_or, get_or-set_same, get_or-set_other}
use borrow.Author.Tests.{eqb-true, eqb-false, lt-ltb, le-ltb}
use Rattle.units.specs.Table.{overlaid}
use Rattle.units.proofs.Integers.{decide_n}
use Rattle.units.proofs.Tables.{padded_at, padded_past, padded_length, overlaid-length, overlaid-else, overlaid-at}
use Rattle.network.specs.Network.{curve, conductance, Network, steepest, InLimits}
use Rattle.network.specs.Kind.{has_curve}
use Rattle.image.specs.Parts.{element_of, curve_of, slopes_of, breakpoints_of}
use Rattle.image.specs.Conductance.{conductance_at}
use Rattle.image.specs.Setting.{Setting}
use Rattle.image.specs.Meaning.{law_at, branch_at, network_at}
use Rattle.image.specs.Sound.{Sound}
use Rattle.image.specs.declared.parts.Parts.{Parts}
use Rattle.stretch.specs.Stretch.{slopes_in, breakpoints_in}
use Rattle.circuit.specs.Board.{board_size, nodes_on, driven_on, count_on, steepest_on, kind_on, p_on, q_on, conductance_on, first_on, breakpoints_on, law_on, branch_on, network_on, Laid, Ready, Unindexed}
use Rattle.circuit.specs.Index.{index_size, index_number, index_of}
use Rattle.circuit.proofs.FillingLaws.{index_long, index_at}
use Rattle.opening.specs.Opening.{element_number, laid_number, laid_of, board_number, board_to, board_of, stretches_of}
use Rattle.opening.proofs.LaidIs.{none_past, nothing_by, curve_by, element_is, laid_zero}
use Rattle.opening.proofs.TableIs.{slopes_are, breakpoints_are, curve_ready, breakpoints_long}

-- ---- a board with the numbers of these parts, whatever has been computed from them

record Shows (parts : Parts) (setting : Setting) (b : List ℕ) : Type 0 where
  head : (i : ℕ) → i < 4 → get_or b i 0 ≡ laid_number parts setting i
  elements : (i : ℕ) → 101 ≤ i → i < board_size → get_or b i 0 ≡ laid_number parts setting i
  past : (i : ℕ) → board_size ≤ i → get_or b i 0 ≡ 0

module _ (parts : Parts) (setting : Setting) (b : List ℕ) (so : Shows parts setting b) where
  place : (j k i : ℕ) → j < 32 → k < 6 → i ≡ 101 + k + 6 * j → get_or b i 0 ≡ element_number parts setting j k
  place j k i hj hk e = so.elements i (omega arith) (omega arith) ∙ element_is parts setting j k i hk e

  module _ (j : ℕ) (h : j < 32) where
    kind_is : kind_on b j ≡ (element_of parts j).kind
    kind_is = place j 0 (101 + 6 * j) h (omega arith) (omega arith)

    p_is : p_on b j ≡ (element_of parts j).p
    p_is = place j 1 (102 + 6 * j) h (omega arith) (omega arith)

    q_is : q_on b j ≡ (element_of parts j).q
    q_is = place j 2 (103 + 6 * j) h (omega arith) (omega arith)

    conductance_is : conductance_on b j ≡ conductance_at parts setting j
    conductance_is = place j 3 (104 + 6 * j) h (omega arith) (omega arith)

    first_is : has_curve (element_of parts j).kind ≡ true → first_on b j ≡ 17 * (element_of parts j).curve
    first_is e = place j 4 (105 + 6 * j) h (omega arith) (omega arith) ∙ rw e

    breakpoints_is : has_curve (element_of parts j).kind ≡ true → breakpoints_on b j ≡ (curve_of parts (element_of parts j).curve).count
    breakpoints_is e = place j 5 (106 + 6 * j) h (omega arith) (omega arith) ∙ rw e

  -- ---- the network

  module _ (sound : Sound parts) where
    abbrev t : List ℤ
    t = stretches_of parts

    curved_there : (j : ℕ) → has_curve (element_of parts j).kind ≡ true → j < parts.element_count
    curved_there j e = ⊎_elim
        (λ (l : parts.element_count ≤ j). let z : false ≡ true = rw (none_past parts j l) at e in absurd (wrong z))
        (λ (l : j < parts.element_count). l) (decide_n parts.element_count j)
      where
        wrong : false ≡ true → ⊥
        wrong z = let q : ◌≡◌ {A = ℕ} 0 1 = ap (λ (b : Bool). cond b 1 0) z in omega arith

    curve_few : (c : ℕ) → c < parts.curve_count → (c < 8) × ((curve_of parts c).count ≤ 16)
    curve_few c h = (omega (arith, sound.few_curves), omega (arith, (sound.curves c h).few, breakpoints_long (curve_of parts c)))

    law_is : (j : ℕ) → j < 32 → law_on b t j ≡ law_at parts setting j
    law_is j h = rw (kind_is j h) (go (has_curve (element_of parts j).kind) refl)
      where
        c : ℕ
        c = (element_of parts j).curve

        Law_is : Bool → Type 0
        Law_is s = cond s (curve (slopes_in t (first_on b j) (breakpoints_on b j)) (breakpoints_in t (first_on b j) (breakpoints_on b j))) (conductance (conductance_on b j)) ≡ cond s (curve (slopes_of (curve_of parts c)) (breakpoints_of (curve_of parts c))) (conductance (conductance_at parts setting j))

        go : (s : Bool) → has_curve (element_of parts j).kind ≡ s → Law_is s
        go true e =
            let few = curve_few c (sound.curve_there j (curved_there j e) e) in
            rw (first_is j h e, breakpoints_is j h e, slopes_are parts c few.0 few.1, breakpoints_are parts c few.0 few.1)
        go false e = rw (conductance_is j h)

    branch_is : (j : ℕ) → branch_on b t j ≡ branch_at parts setting j
    unfolding branch_on branch_at
    branch_is j = ⊎_elim
        (λ (l : 32 ≤ j). rw (so.past (101 + 6 * j) (omega arith), so.past (102 + 6 * j) (omega arith), so.past (103 + 6 * j) (omega arith), so.past (104 + 6 * j) (omega arith), none_past parts j (omega (arith, sound.few_elements)), nothing_by parts.rate))
        (λ (l : j < 32). rw (law_is j l, kind_is j l, p_is j l, q_is j l))
        (decide_n 32 j)

    network_shown : network_on b t ≡ network_at parts setting
    unfolding laid_number
    network_shown = rw (so.head 0 (omega arith), so.head 1 (omega arith), so.head 2 (omega arith), so.head 3 (omega arith), fun_ext branch_is)

    count_is : count_on b ≡ parts.element_count
    unfolding laid_number
    count_is = so.head 3 (omega arith)

    laid_shown : InLimits (network_at parts setting) → ((k : ℕ) → k < index_size → get_or b (20 + k) 0 ≡ index_number (network_at parts setting) k) → Laid b t
    laid_shown limits index = record {
      limits = rw network_shown limits;
      index = rw network_shown index;
      no_conductance = λ j h e. let l : j < 32 = omega (arith, count_is, sound.few_elements) in conductance_is j l ∙ curve_by (element_of parts j).kind (element_of parts j).value parts.rate (rw (kind_is j l) at e);
      curves = λ j h e.
          let l : j < 32 = omega (arith, count_is, sound.few_elements) in
          let d : has_curve (element_of parts j).kind ≡ true = rw (kind_is j l) at e in
          let k = sound.curve_there j (omega (arith, count_is)) d in
          let few = curve_few (element_of parts j).curve k in
          rw (first_is j l d, breakpoints_is j l d) (curve_ready parts (element_of parts j).curve few.0 few.1 (sound.curves (element_of parts j).curve k));
    }

-- ---- before anything is computed

module _ (parts : Parts) (setting : Setting) where
  laid_at : (i : ℕ) → i < board_size → get_or (laid_of parts setting) i 0 ≡ laid_number parts setting i
  unfolding laid_of
  laid_at i h = padded_at 0 board_size (laid_number parts setting) board_size i (omega arith) h

  laid_length : length (laid_of parts setting) ≡ board_size
  unfolding laid_of
  laid_length = padded_length 0 board_size (laid_number parts setting) board_size

  laid_shows : Shows parts setting (laid_of parts setting)
  unfolding laid_of
  laid_shows = record {
    head = λ i h. laid_at i (omega arith);
    elements = λ i low high. laid_at i high;
    past = λ i h. padded_past 0 board_size (laid_number parts setting) board_size i h;
  }

  network_laid : Sound parts → network_on (laid_of parts setting) (stretches_of parts) ≡ network_at parts setting
  network_laid sound = network_shown parts setting (laid_of parts setting) laid_shows sound

  pub unindexed : Sound parts → InLimits (network_at parts setting) → Unindexed (laid_of parts setting) (stretches_of parts)
  unindexed sound limits = record {
    limits = rw (network_laid sound) limits;
    blank = λ k h. laid_at (20 + k) (omega arith) ∙ laid_zero parts setting (20 + k) (omega arith) (omega arith);
    long = laid_length;
  }

-- ---- with the index, and the steepest sums of the first n nodes

module _ (parts : Parts) (setting : Setting) (n : ℕ) where
  abbrev f : ℕ → ℕ
  f = board_number parts setting n

  at : (i : ℕ) → i < board_size → get_or (board_to parts setting n) i 0 ≡ f i
  unfolding board_to
  at i h = padded_at 0 board_size f board_size i (omega arith) h

  pub board_length : length (board_to parts setting n) ≡ board_size
  unfolding board_to
  board_length = padded_length 0 board_size f board_size

  number_head : (i : ℕ) → i < 4 → f i ≡ laid_number parts setting i
  unfolding board_number
  number_head i h = rw (lt-ltb i 4 h)

  pub sum_is : (i : ℕ) → 4 ≤ i → i < 20 → f i ≡ cond (ltb i (4 + n)) (steepest (network_at parts setting) (i - 4)) 0
  unfolding board_number
  sum_is i low high = rw (le-ltb i 4 low, lt-ltb i 20 high)

  number_index : (i : ℕ) → 20 ≤ i → i < 101 → f i ≡ index_number (network_at parts setting) (i - 20)
  unfolding board_number
  number_index i low high = rw (le-ltb i 4 (omega arith), le-ltb i 20 low, lt-ltb i 101 high)

  number_element : (i : ℕ) → 101 ≤ i → f i ≡ laid_number parts setting i
  unfolding board_number
  number_element i low = rw (le-ltb i 4 (omega arith), le-ltb i 20 (omega arith), le-ltb i 101 low)

  board_shows : Shows parts setting (board_to parts setting n)
  unfolding board_to
  board_shows = record {
    head = λ i h. at i (omega arith) ∙ number_head i h;
    elements = λ i low high. at i high ∙ number_element i low;
    past = λ i h. padded_past 0 board_size f board_size i h;
  }

  module _ (sound : Sound parts) where
    pub network_is : network_on (board_to parts setting n) (stretches_of parts) ≡ network_at parts setting
    network_is = network_shown parts setting (board_to parts setting n) board_shows sound

    pub laid : InLimits (network_at parts setting) → Laid (board_to parts setting n) (stretches_of parts)
    laid limits = laid_shown parts setting (board_to parts setting n) board_shows sound limits (λ k h. let e : 20 + k - 20 ≡ k = omega arith in at (20 + k) (omega arith) ∙ number_index (20 + k) (omega arith) (omega arith) ∙ ap (index_number (network_at parts setting)) e)

-- one sum more changes one number alone
number_other : (parts : Parts) (setting : Setting) (n i : ℕ) → (i ≡ 4 + n → ⊥) → board_number parts setting n i ≡ board_number parts setting (n + 1) i
unfolding board_number
number_other parts setting n i apart = ⊎_elim
    (λ (h : 4 + n ≤ i). let m : 4 + (n + 1) ≤ i = beyond h in rw (le-ltb i (4 + n) h, le-ltb i (4 + (n + 1)) m))
    (λ (h : i < 4 + n). rw (lt-ltb i (4 + n) h, lt-ltb i (4 + (n + 1)) (omega arith))) (decide_n (4 + n) i)
  where
    beyond : 4 + n ≤ i → 4 + (n + 1) ≤ i
    beyond h = ⊎_elim (λ (m : 4 + (n + 1) ≤ i). m) (λ (m : i < 4 + (n + 1)). absurd (apart (omega arith))) (decide_n (4 + (n + 1)) i)

same_or : (i j : ℕ) → (i ≡ j) ⊎ (i ≡ j → ⊥)
same_or i j = go (eqb i j) refl
  where
    go : (b : Bool) → eqb i j ≡ b → (i ≡ j) ⊎ (i ≡ j → ⊥)
    go true e = inl (eqb-true i j e)
    go false e = inr (eqb-false i j e)

-- the board with all steepest sums is ready
pub ready : (parts : Parts) (setting : Setting) → Sound parts → InLimits (network_at parts setting) → Ready (board_of parts setting) (stretches_of parts)
unfolding laid_number
ready parts setting sound limits = record {
  laid = laid parts setting 16 sound limits;
  steepest_sums = λ i free. rw (network_is parts setting 16 sound) (sums i (omega (arith, few_on free)));
}
  where
    few_on : {i : ℕ} → (driven_on (board_of parts setting) < i) × (i ≤ nodes_on (board_of parts setting)) → i ≤ 15
    few_on free = omega (arith, free.1, (board_shows parts setting 16).head 1 (omega arith), sound.few_nodes)

    sums : (i : ℕ) → i ≤ 15 → steepest_on (board_of parts setting) i ≡ steepest (network_at parts setting) i
    sums i h =
        let e : 4 + i - 4 ≡ i = omega arith in
        at parts setting 16 (4 + i) (omega arith) ∙ sum_is parts setting 16 (4 + i) (omega arith) (omega arith) ∙ rw (lt-ltb (4 + i) 20 (omega arith), e)

-- ---- filling it

module _ (parts : Parts) (setting : Setting) where
  -- the index
  pub index_more : overlaid (laid_of parts setting) 20 (index_of (network_at parts setting)) ≡ board_to parts setting 0
  index_more =
      let N = network_at parts setting in
      ext_get_or 0 (overlaid (laid_of parts setting) 20 (index_of N)) (board_to parts setting 0)
      (overlaid-length (laid_of parts setting) 20 (index_of N) ∙ laid_length parts setting ∙ sym (board_length parts setting 0))
      (λ i l. each i (omega (arith, overlaid-length (laid_of parts setting) 20 (index_of N), laid_length parts setting)))
    where
      N : Network
      N = network_at parts setting

      outside : (i : ℕ) → (i < 20) ⊎ (101 ≤ i) → i < board_size → get_or (overlaid (laid_of parts setting) 20 (index_of N)) i 0 ≡ laid_number parts setting i
      outside i h l = overlaid-else (laid_of parts setting) 20 (index_of N) 0 i (⊎_elim (λ (q : i < 20). inl q) (λ (q : 101 ≤ i). inr (omega (arith, index_long N))) h) ∙ laid_at parts setting i l

      each : (i : ℕ) → i < board_size → get_or (overlaid (laid_of parts setting) 20 (index_of N)) i 0 ≡ get_or (board_to parts setting 0) i 0
      each i l = ⊎_elim
          (λ (q : 20 ≤ i).
          ⊎_elim
          (λ (r : 101 ≤ i). outside i (inr r) l ∙ sym (at parts setting 0 i l ∙ number_element parts setting 0 i r))
          (λ (r : i < 101).
          overlaid-at (laid_of parts setting) 20 (index_of N) 0 (i - 20) i (omega (arith, index_long N, laid_length parts setting)) (omega (arith, index_long N)) (omega arith)
          ∙ index_at N (i - 20) (omega arith)
          ∙ sym (at parts setting 0 i l ∙ number_index parts setting 0 i q r))
          (decide_n 101 i))
          (λ (q : i < 20).
          ⊎_elim
          (λ (r : 4 ≤ i). outside i (inl q) l ∙ laid_zero parts setting i r (omega arith) ∙ sym (at parts setting 0 i l ∙ sum_is parts setting 0 i r q ∙ rw (le-ltb i 4 r)))
          (λ (r : i < 4). outside i (inl q) l ∙ sym (at parts setting 0 i l ∙ number_head parts setting 0 i r))
          (decide_n 4 i))
          (decide_n 20 i)

  -- .. as the code makes it, from a board and stretches that are these parts'
  pub index_made : Sound parts → (board : List ℕ) (stretches : List ℤ) → board ≡ laid_of parts setting → stretches ≡ stretches_of parts → overlaid board 20 (index_of (network_on board stretches)) ≡ board_to parts setting 0
  index_made sound board stretches is from =
      ap (λ (b : List ℕ). overlaid b 20 (index_of (network_on b stretches))) is
      ∙ ap (λ (t : List ℤ). overlaid (laid_of parts setting) 20 (index_of (network_on (laid_of parts setting) t))) from
      ∙ ap (λ (N : Network). overlaid (laid_of parts setting) 20 (index_of N)) (network_laid parts setting sound)
      ∙ index_more

  -- one steepest sum more
  pub sums_more : (n v : ℕ) → n < 16 → v ≡ steepest (network_at parts setting) n → set (board_to parts setting n) (4 + n) v ≡ board_to parts setting (n + 1)
  sums_more n v h is =
      ext_get_or 0 (set (board_to parts setting n) (4 + n) v) (board_to parts setting (n + 1)) (simp length-set (long n ∙ sym (long (n + 1))))
      (λ i l. ⊎_elim (λ (q : board_size ≤ i). absurd (omega (arith, simp length-set at l, long n))) (λ (q : i < board_size). each i q) (decide_n board_size i))
    where
      long : (m : ℕ) → length (board_to parts setting m) ≡ board_size
      long m = board_length parts setting m

      other : (i : ℕ) → i < board_size → (i ≡ 4 + n → ⊥) → board_number parts setting n i ≡ board_number parts setting (n + 1) i
      other i q apart = number_other parts setting n i apart

      each : (i : ℕ) → i < board_size → get_or (set (board_to parts setting n) (4 + n) v) i 0 ≡ get_or (board_to parts setting (n + 1)) i 0
      each i q = ⊎_elim
          (λ (e : i ≡ 4 + n). let s : 4 + n - 4 ≡ n = omega arith in rw e (get_or-set_same (board_to parts setting n) (4 + n) v 0 (omega (arith, long n)) ∙ is ∙ sym (at parts setting (n + 1) (4 + n) (omega arith) ∙ sum_is parts setting (n + 1) (4 + n) (omega arith) (omega arith) ∙ rw (lt-ltb (4 + n) (4 + (n + 1)) (omega arith), s))))
          (λ (e : i ≡ 4 + n → ⊥). get_or-set_other (board_to parts setting n) (4 + n) i v 0 e ∙ at parts setting n i q ∙ other i q e ∙ sym (at parts setting (n + 1) i q))
          (same_or i (4 + n))
