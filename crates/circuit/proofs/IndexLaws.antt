-- What a board's index tells: where a node's ends stand, and that they are those of the elements that touch it. Assumes nothing.
use mathlib.Core.Path.{◌≡◌, refl, sym, ◌∙◌, ap}
use mathlib.Core.Bool.{Bool, true, false}
use mathlib.Core.List.{List, [], ◌++◌}
use mathlib.Core.Logic.{⊎_elim}
use Prim.Native.Nat.{ℕ, zero, suc, ◌+◌, ◌*◌, ◌-◌, ◌/◌, ◌≤◌, ◌<◌}
use native.Mathlib.Numerals.{add-one}
use native.Mathlib.Omega.{arith}
use lib.Dec.{eqb}
use lib.IntN.{ℤ}
use lib.ListN.{length, get_or, length-append, length-map, get_or-append, get_or-map}
use lib.Seq.{get_or-append-add}
use borrow.Author.Tests.{lt-ltb, le-ltb, le-leb}
use Rattle.units.specs.Integer.{total}
use Rattle.units.proofs.Integers.{decide_n}
use Rattle.units.proofs.NumbersWhere.{named_holds, named_there, named_rising}
use Rattle.units.proofs.Tables.{get_d_any}
use Rattle.network.specs.Network.{Network, pick}
use Rattle.network.specs.Elements.{touches, elements_at}
use Rattle.network.proofs.Elements.{few_in_lists}
use Rattle.circuit.specs.Index.{end_number, ends_at, ends_below, index_number}
use Rattle.circuit.specs.Board.{nodes_on, count_on, start_on, end_on, network_on, Laid, many_on, named_on, Names}
use Rattle.circuit.proofs.BoardLaws.{few_nodes, few_elements}

-- an end's element
pub half : (j : ℕ) (s t : Bool) → (2 * j + pick s t 0 1 0) / 2 ≡ j
half j true t = omega arith
half j false true = omega arith
half j false false = omega arith

-- ---- the ends of the nodes, one node after the other

module _ (N : Network) where
  pub ends_none : ends_below N 0 ≡ []
  unfolding ends_below
  ends_none = refl

  pub ends_more : (n : ℕ) → ends_below N (suc n) ≡ ends_below N n ++ ends_at N n
  unfolding ends_below
  ends_more n = refl

  pub ends_long : (n : ℕ) → length (ends_below N (suc n)) ≡ length (ends_below N n) + length (elements_at N n)
  ends_long n = ap (λ (l : List ℕ). length l) (ends_more n) ∙ length-append (ends_below N n) (ends_at N n) ∙ ap (λ (m : ℕ). length (ends_below N n) + m) (length-map (elements_at N n) (end_number N n))

  ends_total : (n : ℕ) → length (ends_below N n) ≡ total (λ (i : ℕ). length (elements_at N i)) n
  unfolding total
  ends_total zero = ap (λ (l : List ℕ). length l) ends_none
  ends_total (suc n) = omega (arith, ends_long n, ends_total n)

  pub ends_few : (n : ℕ) → length (ends_below N n) ≤ 2 * N.count
  ends_few n = omega (arith, ends_total n, few_in_lists N n)

  pub end_at_lem : (i t : ℕ) → t < length (elements_at N i) → get_or (ends_at N i) t 0 ≡ end_number N i (get_or (elements_at N i) t 0)
  end_at_lem i t h = get_d_any (ends_at N i) t 0 (end_number N i 0) (omega (arith, length-map (elements_at N i) (end_number N i))) ∙ get_or-map (end_number N i) (elements_at N i) t 0

  -- node i's come after those of the nodes before it
  ends_there : (i t n : ℕ) → i < n → t < length (elements_at N i) → (length (ends_below N i) + t < length (ends_below N n)) × (get_or (ends_below N n) (length (ends_below N i) + t) 0 ≡ end_number N i (get_or (elements_at N i) t 0))
  ends_there i t zero l h = absurd (omega arith)
  ends_there i t (suc n) l h = ⊎_elim
      (λ (q : n ≤ i).
      let e : i ≡ n = omega arith in
      let there : t < length (elements_at N n) = rw e at h in
      rw e
      ((omega (arith, ends_long n), ap (λ (m : List ℕ). get_or m (length (ends_below N n) + t) 0) (ends_more n) ∙ get_or-append-add (ends_below N n) (ends_at N n) t 0 ∙ end_at_lem n t there)))
      (λ (q : i < n).
      let old = ends_there i t n q h in
      let k = length (ends_below N i) + t in
      (omega (arith, old.0, ends_long n), ap (λ (m : List ℕ). get_or m k 0) (ends_more n) ∙ get_or-append (ends_below N n) (ends_at N n) 0 k old.0 ∙ old.1))
      (decide_n n i)

-- ---- as the board has them

module _ (board : List ℕ) (stretches : List ℤ) (laid : Laid board stretches) where
  abbrev N : Network
  N = network_on board stretches

  start_is : (i : ℕ) → i ≤ suc (nodes_on board) → start_on board i ≡ length (ends_below N i)
  unfolding index_number
  start_is i h = laid.index i (omega (arith, few_nodes board stretches laid)) ∙ rw (lt-ltb i 17 (omega (arith, few_nodes board stretches laid)), le-leb i (suc (nodes_on board)) h)

  end_is : (k : ℕ) → k < 64 → end_on board k ≡ get_or (ends_below N (suc (nodes_on board))) k 0
  unfolding index_number
  end_is k h =
      let e : 37 + k ≡ 20 + (17 + k) = omega arith in
      let d : 17 + k - 17 ≡ k = omega arith in
      ap (λ (m : ℕ). get_or board m 0) e ∙ laid.index (17 + k) (omega arith) ∙ rw (le-ltb (17 + k) 17 (omega arith), d)

  module _ (i : ℕ) (there : i ≤ nodes_on board) where
    -- where node i's ends begin and where the next node's
    pub after_is : start_on board (i + 1) ≡ start_on board i + length (elements_at N i)
    after_is = omega (arith, start_is (i + 1) (omega arith), ap (λ (m : ℕ). length (ends_below N m)) (add-one i), ends_long N i, start_is i (omega arith))

    pub after_fits : start_on board (i + 1) ≤ 64
    after_fits = omega (arith, start_is (i + 1) (omega arith), ends_few N (i + 1), few_elements board stretches laid)

    -- the end at place t
    pub end_there : (t : ℕ) → t < length (elements_at N i) → end_on board (start_on board i + t) ≡ end_number N i (get_or (elements_at N i) t 0)
    end_there t h =
        let e : start_on board i + t ≡ length (ends_below N i) + t = omega (arith, start_is i (omega arith)) in
        let is = ends_there N i t (suc (nodes_on board)) (omega arith) h in
        ap (end_on board) e ∙ end_is (length (ends_below N i) + t) (omega (arith, e, after_is, after_fits)) ∙ is.1

    -- .. and its element
    pub element_there : (t : ℕ) → t < length (elements_at N i) → named_on board i t ≡ get_or (elements_at N i) t 0
    element_there t h =
        let j = get_or (elements_at N i) t 0 in
        ap (λ (e : ℕ). e / 2) (end_there t h) ∙ half j (eqb i (N.branch j).p) (eqb i (N.branch j).q)

    pub many_is : many_on board i ≡ length (elements_at N i)
    many_is = omega (arith, after_is)

    -- under node i stand exactly the elements that touch it, once, in image order
    pub names : Names board stretches i
    names = record {
      touching = λ t h. let l : t < length (elements_at N i) = omega (arith, many_is) in rw (element_there t l) (named_holds (touches N i) (count_on board) t l);
      all = λ j h e.
          let place = named_there (touches N i) (count_on board) j h e in
          (place.0, omega (arith, many_is, place.1), element_there place.0 place.1 ∙ place.2);
      rising = λ t u l h.
          let m : u < length (elements_at N i) = omega (arith, many_is) in
          omega (arith, element_there t (omega arith), element_there u m, named_rising (touches N i) (count_on board) t u l m);
      end = λ t h. let l : t < length (elements_at N i) = omega (arith, many_is) in end_there t l ∙ ap (end_number N i) (sym (element_there t l));
    }
