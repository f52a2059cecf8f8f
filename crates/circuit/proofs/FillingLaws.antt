-- How the index comes onto a board: node after node, and for each node element after element. Assumes nothing.
use mathlib.Core.Path.{◌≡◌, refl, sym, ◌∙◌, ap, fun_ext}
use mathlib.Core.Bool.{Bool, true, false, cond}
use mathlib.Core.List.{List, [], ◌∷◌, ◌++◌, map, map-append}
use mathlib.Core.Logic.{◌⊎◌, inl, inr, ⊎_elim}
use Prim.Native.Nat.{ℕ, suc, ◌+◌, ◌*◌, ◌-◌, ◌≤◌, ◌<◌}
use native.Mathlib.Numerals.{add-one}
use native.Mathlib.Omega.{arith}
use lib.Dec.{eqb}
use lib.IntN.{ℤ}
use lib.ListN.{length, get_or, set, length-set, length-map, get_or-append, get_or-eq_default}
use lib.Seq.{ext_get_or, get_or-append-add, get_or-set_same, get_or-set_other}
use borrow.Author.Tests.{lt-ltb, le-ltb, le-leb, lt-leb}
use Rattle.units.specs.Table.{numbers_where, overlaid}
use Rattle.units.proofs.Integers.{decide_n}
use Rattle.units.proofs.NumbersWhere.{named_more, named_many, named_grow}
use Rattle.units.proofs.Tables.{tabulate-length, tabulate-at, overlaid-length, overlaid-else, overlaid-at, overlaid-append}
use Rattle.network.specs.Network.{Network}
use Rattle.network.specs.Elements.{touches, elements_at}
use Rattle.circuit.specs.Index.{end_number, ends_at, ends_below, index_size, index_number, index_of}
use Rattle.circuit.specs.Board.{board_size, p_on, q_on, start_on, end_on, branch_on, network_on, end_at, Unindexed}
use Rattle.std.specs.Prelude.{Some, None}
use Rattle.circuit.specs.declared.branch.End.TheVariants.{P, Q}
use Rattle.circuit.proofs.BoardLaws.{end_p, end_q, end_neither}
use Rattle.circuit.proofs.IndexLaws.{ends_none, ends_more, ends_long, ends_few}

-- boards that differ at most in what is computed have the same network
module _ (a b : List ℕ) (stretches : List ℤ) (head : (m : ℕ) → m < 4 → get_or a m 0 ≡ get_or b m 0) (elements : (m : ℕ) → 101 ≤ m → get_or a m 0 ≡ get_or b m 0) where
  branch_same : (j : ℕ) → branch_on a stretches j ≡ branch_on b stretches j
  unfolding branch_on
  branch_same j = rw (elements (101 + 6 * j) (omega arith), elements (102 + 6 * j) (omega arith), elements (103 + 6 * j) (omega arith), elements (104 + 6 * j) (omega arith), elements (105 + 6 * j) (omega arith), elements (106 + 6 * j) (omega arith))

  pub network_same : network_on a stretches ≡ network_on b stretches
  network_same = rw (head 0 (omega arith), head 1 (omega arith), head 2 (omega arith), head 3 (omega arith), fun_ext branch_same)

-- ---- one element's end at a node, to place k

module _ (board : List ℕ) (stretches : List ℤ) (i j : ℕ) where
  abbrev s : Bool
  s = eqb i (p_on board j)

  abbrev t : Bool
  t = eqb i (q_on board j)

  pub touching_p : Some P ≡ end_at board j i → touches (network_on board stretches) i j ≡ true
  unfolding branch_on
  touching_p e = end_p true true false s t e

  pub touching_q : Some Q ≡ end_at board j i → touches (network_on board stretches) i j ≡ true
  unfolding branch_on
  touching_q e = end_q true true false s t e

  pub touching_neither : None ≡ end_at board j i → touches (network_on board stretches) i j ≡ false
  unfolding branch_on
  touching_neither e = end_neither true true false s t e

  number_p : Some P ≡ end_at board j i → 2 * j ≡ end_number (network_on board stretches) i j
  unfolding branch_on
  number_p e = omega (arith, end_p {A = ℕ} 0 1 0 s t e)

  number_q : Some Q ≡ end_at board j i → 2 * j + 1 ≡ end_number (network_on board stretches) i j
  unfolding branch_on
  number_q e = omega (arith, end_q {A = ℕ} 0 1 0 s t e)

  -- the board with the element's end, if it has one there
  abbrev Put : ℕ → List ℕ → Type 0
  Put k after = after ≡ overlaid board (37 + k) (map (end_number (network_on board stretches) i) (cond (touches (network_on board stretches) i j) (j ∷ []) []))

  pub put_p : (k : ℕ) → Some P ≡ end_at board j i → Put k (set board (37 + k) (2 * j))
  unfolding overlaid
  put_p k e = rw (touching_p e) (ap (set board (37 + k)) (number_p e))

  pub put_q : (k : ℕ) → Some Q ≡ end_at board j i → Put k (set board (37 + k) (2 * j + 1))
  unfolding overlaid
  put_q k e = rw (touching_q e) (ap (set board (37 + k)) (number_q e))

  pub put_neither : (k : ℕ) → None ≡ end_at board j i → Put k board
  unfolding overlaid
  put_neither k e = rw (touching_neither e)

-- ---- one node's ends, from place `at` on

-- those of the first n elements
abbrev pub ends_to : Network → ℕ → ℕ → List ℕ
ends_to N i n = map (end_number N i) (numbers_where (touches N i) n)

-- a place is taken only while there is one
pub room : (N : Network) (i at j : ℕ) → at + length (elements_at N i) ≤ 64 → j < N.count → touches N i j ≡ true → at + length (numbers_where (touches N i) j) < 64
room N i at j fits there e = omega (arith, rw e at (named_many (touches N i) j), named_grow (touches N i) (suc j) N.count (omega arith))

pub listed_many : (N : Network) (i n : ℕ) → length (numbers_where (touches N i) (n + 1)) ≡ length (numbers_where (touches N i) n) + cond (touches N i n) 1 0
listed_many N i n = ap (λ (m : ℕ). length (numbers_where (touches N i) m)) (add-one n) ∙ named_many (touches N i) n

module _ (N : Network) (i at : ℕ) (before : List ℕ) where
  pub listed_none : before ≡ overlaid before (37 + at) (ends_to N i 0)
  unfolding overlaid numbers_where
  listed_none = refl

  pub listed_more : (n : ℕ) → overlaid (overlaid before (37 + at) (ends_to N i n)) (37 + (at + length (numbers_where (touches N i) n))) (map (end_number N i) (cond (touches N i n) (n ∷ []) [])) ≡ overlaid before (37 + at) (ends_to N i (n + 1))
  listed_more n =
      let more = map (end_number N i) (cond (touches N i n) (n ∷ []) []) in
      let place : 37 + (at + length (numbers_where (touches N i) n)) ≡ 37 + at + length (ends_to N i n) = omega (arith, length-map (numbers_where (touches N i) n) (end_number N i)) in
      ap (λ (m : ℕ). overlaid (overlaid before (37 + at) (ends_to N i n)) m more) place
      ∙ overlaid-append before (37 + at) (ends_to N i n) more
      ∙ ap (overlaid before (37 + at)) (sym (ap (map (end_number N i)) (named_more (touches N i) n) ∙ map-append (end_number N i) (numbers_where (touches N i) n) (cond (touches N i n) (n ∷ []) [])))
      ∙ ap (λ (m : ℕ). overlaid before (37 + at) (ends_to N i m)) (sym (add-one n))

  -- the network stays what it was
  pub listed_same : (n : ℕ) (stretches : List ℤ) → at + length (elements_at N i) ≤ 64 → n ≤ N.count → network_on (overlaid before (37 + at) (ends_to N i n)) stretches ≡ network_on before stretches
  listed_same n stretches fits l = network_same (overlaid before (37 + at) (ends_to N i n)) before stretches
      (λ m h. overlaid-else before (37 + at) (ends_to N i n) 0 m (inl (omega arith)))
      (λ m h. overlaid-else before (37 + at) (ends_to N i n) 0 m (inr (omega (arith, length-map (numbers_where (touches N i) n) (end_number N i), named_grow (touches N i) n N.count l))))

-- ---- all nodes

-- the ends of the nodes below i stand on the board, and where each begins; all else is as before
pub record Filling (N : Network) (before board : List ℕ) (i : ℕ) : Type 0 where
  pub long : length board ≡ length before
  pub starts : (a : ℕ) → a ≤ i → start_on board a ≡ length (ends_below N a)
  pub later : (a : ℕ) → i < a → a < 17 → start_on board a ≡ 0
  pub ends : (k : ℕ) → k < 64 → end_on board k ≡ get_or (ends_below N i) k 0
  pub head : (m : ℕ) → m < 20 → get_or board m 0 ≡ get_or before m 0
  pub elements : (m : ℕ) → 101 ≤ m → get_or board m 0 ≡ get_or before m 0

pub filling_none : (board : List ℕ) (stretches : List ℤ) → Unindexed board stretches → Filling (network_on board stretches) board board 0
filling_none board stretches blank =
    let N = network_on board stretches in
    record {
      long = refl;
      starts = λ a h. let e : a ≡ 0 = omega arith in rw (e, ends_none N) (blank.blank 0 (omega arith));
      later = λ a l h. blank.blank a (omega arith);
      ends = λ k h. let e : 37 + k ≡ 20 + (17 + k) = omega arith in rw (e, ends_none N) (blank.blank (17 + k) (omega arith));
      head = λ m h. refl;
      elements = λ m h. refl;
    }

-- there is room for one node more
pub next_fits : (N : Network) (i : ℕ) → N.count ≤ 32 → length (ends_below N i) + length (elements_at N i) ≤ 64
next_fits N i few = omega (arith, ends_long N i, ends_few N (suc i))

module _ (N : Network) (before board : List ℕ) (i : ℕ) (so : Filling N before board i) (few_nodes : i ≤ 15) (few : N.count ≤ 32) (size : length before ≡ board_size) where
  abbrev L : ℕ
  L = length (ends_below N i)

  abbrev listed : List ℕ
  listed = overlaid board (37 + L) (ends_at N i)

  long_ends : L + length (ends_at N i) ≡ length (ends_below N (suc i))
  long_ends = omega (arith, ends_long N i, length-map (elements_at N i) (end_number N i))

  outside : (m : ℕ) → (m < 37 + L) ⊎ (37 + L + length (ends_at N i) ≤ m) → get_or listed m 0 ≡ get_or board m 0
  outside m h = overlaid-else board (37 + L) (ends_at N i) 0 m h

  ends_of_all : (k : ℕ) → k < 64 → get_or listed (37 + k) 0 ≡ get_or (ends_below N (suc i)) k 0
  ends_of_all k h = ⊎_elim
      (λ (q : L ≤ k).
      ⊎_elim
      (λ (r : length (ends_below N (suc i)) ≤ k). outside (37 + k) (inr (omega (arith, long_ends))) ∙ so.ends k h ∙ get_or-eq_default (ends_below N i) 0 q ∙ sym (get_or-eq_default (ends_below N (suc i)) 0 r))
      (λ (r : k < length (ends_below N (suc i))).
      let e : L + (k - L) ≡ k = omega arith in
      overlaid-at board (37 + L) (ends_at N i) 0 (k - L) (37 + k) (omega (arith, long_ends, ends_few N (suc i), so.long)) (omega (arith, long_ends)) (omega arith)
      ∙ sym (ap (λ (l : List ℕ). get_or l k 0) (ends_more N i) ∙ ap (λ (m : ℕ). get_or (ends_below N i ++ ends_at N i) m 0) (sym e) ∙ get_or-append-add (ends_below N i) (ends_at N i) (k - L) 0))
      (decide_n (length (ends_below N (suc i))) k))
      (λ (q : k < L). outside (37 + k) (inl (omega arith)) ∙ so.ends k h ∙ sym (ap (λ (l : List ℕ). get_or l k 0) (ends_more N i) ∙ get_or-append (ends_below N i) (ends_at N i) 0 k q))
      (decide_n L k)

  -- one node more
  module _ (v : ℕ) (is : v ≡ length (ends_below N i) + length (elements_at N i)) where
    abbrev next : List ℕ
    next = set listed (21 + i) v

    other : (m : ℕ) → (m ≡ 21 + i → ⊥) → get_or next m 0 ≡ get_or listed m 0
    other m apart = get_or-set_other listed (21 + i) m v 0 apart

    start_next : (a : ℕ) → a ≤ suc i → start_on next a ≡ length (ends_below N a)
    start_next a h = ⊎_elim
        (λ (q : suc i ≤ a).
        let e : a ≡ suc i = omega arith in
        let p : 20 + a ≡ 21 + i = omega arith in
        ap (λ (m : ℕ). get_or next m 0) p
        ∙ get_or-set_same listed (21 + i) v 0 (omega (arith, overlaid-length board (37 + L) (ends_at N i), so.long))
        ∙ is
        ∙ sym (ends_long N i)
        ∙ ap (λ (m : ℕ). length (ends_below N m)) (sym e))
        (λ (q : a < suc i). other (20 + a) (λ e. omega arith) ∙ outside (20 + a) (inl (omega arith)) ∙ so.starts a (omega arith))
        (decide_n (suc i) a)

    pub filling_more : Filling N before (set (overlaid board (37 + length (ends_below N i)) (ends_at N i)) (21 + i) v) (suc i)
    filling_more = record {
      long = length-set listed (21 + i) v ∙ overlaid-length board (37 + L) (ends_at N i) ∙ so.long;
      starts = start_next;
      later = λ a l h. other (20 + a) (λ e. omega arith) ∙ outside (20 + a) (inl (omega arith)) ∙ so.later a (omega arith) h;
      ends = λ k h. other (37 + k) (λ e. omega arith) ∙ ends_of_all k h;
      head = λ m h. other m (λ e. omega arith) ∙ outside m (inl (omega arith)) ∙ so.head m h;
      elements = λ m h. other m (λ e. omega arith) ∙ outside m (inr (omega (arith, long_ends, ends_few N (suc i)))) ∙ so.elements m h;
    }

-- the index as a list
pub index_long : (N : Network) → length (index_of N) ≡ 81
unfolding index_of
index_long N = tabulate-length (index_number N) index_size

pub index_at : (N : Network) (k : ℕ) → k < 81 → get_or (index_of N) k 0 ≡ index_number N k
unfolding index_of
index_at N k h = tabulate-at (index_number N) index_size k 0 h

-- with all nodes it is there
module _ (N : Network) (before board : List ℕ) (so : Filling N before board (suc N.nodes)) (size : length before ≡ board_size) where
  number : (k : ℕ) → k < 81 → get_or board (20 + k) 0 ≡ index_number N k
  unfolding index_number
  number k h = ⊎_elim
      (λ (q : 17 ≤ k). let e : 20 + k ≡ 37 + (k - 17) = omega arith in rw (le-ltb k 17 q, e) (so.ends (k - 17) (omega arith)))
      (λ (q : k < 17).
      ⊎_elim
      (λ (r : suc (suc N.nodes) ≤ k). rw (lt-ltb k 17 q, lt-leb k (suc N.nodes) r) (so.later k r q))
      (λ (r : k < suc (suc N.nodes)). rw (lt-ltb k 17 q, le-leb k (suc N.nodes) (omega arith)) (so.starts k (omega arith)))
      (decide_n (suc (suc N.nodes)) k))
      (decide_n 17 k)

  pub filled : board ≡ overlaid before 20 (index_of N)
  filled = ext_get_or 0 board (overlaid before 20 (index_of N)) (so.long ∙ sym (overlaid-length before 20 (index_of N))) (λ m h. each m)
    where
      each : (m : ℕ) → get_or board m 0 ≡ get_or (overlaid before 20 (index_of N)) m 0
      each m = ⊎_elim
          (λ (q : 20 ≤ m).
          ⊎_elim
          (λ (r : 101 ≤ m). so.elements m r ∙ sym (overlaid-else before 20 (index_of N) 0 m (inr (omega (arith, index_long N)))))
          (λ (r : m < 101).
          let e : m ≡ 20 + (m - 20) = omega arith in
          ap (λ (i : ℕ). get_or board i 0) e
          ∙ number (m - 20) (omega arith)
          ∙ sym (overlaid-at before 20 (index_of N) 0 (m - 20) m (omega (arith, index_long N)) (omega (arith, index_long N)) e ∙ index_at N (m - 20) (omega arith)))
          (decide_n 101 m))
          (λ (q : m < 20). so.head m q ∙ sym (overlaid-else before 20 (index_of N) 0 m (inl q)))
          (decide_n 20 m)
