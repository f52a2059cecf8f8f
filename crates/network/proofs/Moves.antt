-- The law of a move: what moving one node, or any, does to the net current of every node, and that all numbers on the way fit. Assumes nothing.
use mathlib.Core.Path.{◌≡◌, refl, sym, ◌∙◌, ap}
use mathlib.Core.Bool.{Bool, true, false, true≢false}
use Prim.Native.Nat.{ℕ, ◌+◌, ◌*◌, ◌≤◌, ◌<◌}
use native.Mathlib.Omega.{arith}
use native.Mathlib.Nat.{le_refl, mul-le-mul}
use lib.Dec.{eqb}
use lib.IntN.{ℤ, pos, neg_ℤ, nat_abs, ◌+ℤ◌, ◌-ℤ◌, ◌*ℤ◌, +ℤ_idr, +ℤ_assoc}
use lib.ListN.{length, get_or}
use borrow.Author.Tests.{eqb-true, eqb-false, eq-eqb, ne_eqb}
use Rattle.units.specs.Integer.{sum}
use Rattle.units.specs.Voltage.{voltage_limit, Within, InRange}
use Rattle.units.proofs.Integers.{signs, add_law, sub_law, neg_law, pos_law, scale_sub}
use Rattle.units.proofs.NumbersWhere.{sum_named, sum_named_part}
use Rattle.units.proofs.Sizes.{abs_add, abs_sub, abs_mul, sum_more, sum_changed, mixed_abs}
use Rattle.network.specs.Network.{Branch, Network, pick, current, leaving, net, branch_limit, stored_limit, leak_limit, current_bound, InLimits}
use Rattle.network.specs.Elements.{touches, elements_at}
use Rattle.network.specs.Move.{Still, more_by_branch, other_end, part_moved, part_shifted}
use Rattle.network.proofs.Ranges.{leaving_fits}

-- ---- one branch

-- what leaves at its end p, at its end q and elsewhere
module _ (b : Branch) (x : ℤ) (w : ℕ → ℤ) where
  abbrev flow : ℤ
  flow = current 1 b.law x (w b.p -ℤ w b.q)

  at_p : (m : ℕ) → m ≡ b.p → leaving 1 b x w m ≡ flow
  unfolding leaving
  at_p m e = rw (eq-eqb m b.p e)

  at_q_lem : (m : ℕ) → (m ≡ b.p → ⊥) → m ≡ b.q → leaving 1 b x w m ≡ neg_ℤ flow
  unfolding leaving
  at_q_lem m n e = rw (ne_eqb m b.p n, eq-eqb m b.q e)

  elsewhere : (m : ℕ) → (m ≡ b.p → ⊥) → (m ≡ b.q → ⊥) → leaving 1 b x w m ≡ pos 0
  unfolding leaving
  elsewhere m n o = rw (ne_eqb m b.p n, ne_eqb m b.q o)

module _ (N : Network) (x v w : ℕ → ℤ) where
  -- what a node's leak and elements have, from v to w
  part : (m : ℕ) (d : ℤ) → net 1 N x v m +ℤ pos N.leak *ℤ (w m -ℤ v m) +ℤ d ≡ pos N.leak *ℤ w m +ℤ (sum (λ (j : ℕ). leaving 1 (N.branch j) (x j) v m) N.count +ℤ d)
  unfolding net
  part m d =
      let l = N.leak in
      let s = sum (λ (j : ℕ). leaving 1 (N.branch j) (x j) v m) N.count in
      rw (scale_sub l (w m) (v m))
      (omega (
        signs,
        add_law (pos l *ℤ v m +ℤ s +ℤ (pos l *ℤ w m -ℤ pos l *ℤ v m)) d,
        add_law (pos l *ℤ v m +ℤ s) (pos l *ℤ w m -ℤ pos l *ℤ v m),
        add_law (pos l *ℤ v m) s,
        sub_law (pos l *ℤ w m) (pos l *ℤ v m),
        add_law (pos l *ℤ w m) (s +ℤ d),
        add_law s d,
      ))

  -- what element j carries more is what its end p gains and its end q loses
  module _ (j : ℕ) where
    pub more_at_p : more_by_branch N x v w (N.branch j).p j ≡ flow (N.branch j) (x j) w -ℤ flow (N.branch j) (x j) v
    more_at_p = rw (at_p (N.branch j) (x j) w (N.branch j).p refl, at_p (N.branch j) (x j) v (N.branch j).p refl)

    pub more_at_q : ((N.branch j).p ≡ (N.branch j).q → ⊥) → more_by_branch N x v w (N.branch j).q j ≡ neg_ℤ (flow (N.branch j) (x j) w -ℤ flow (N.branch j) (x j) v)
    more_at_q apart =
        let new = flow (N.branch j) (x j) w in
        let old = flow (N.branch j) (x j) v in
        rw (at_q_lem (N.branch j) (x j) w (N.branch j).q (λ z. apart (sym z)) refl, at_q_lem (N.branch j) (x j) v (N.branch j).q (λ z. apart (sym z)) refl)
        (omega (signs, sub_law (neg_ℤ new) (neg_ℤ old), neg_law new, neg_law old, neg_law (new -ℤ old), sub_law new old))

    pub more_nowhere : (m : ℕ) → (m ≡ (N.branch j).p → ⊥) → (m ≡ (N.branch j).q → ⊥) → more_by_branch N x v w m j ≡ pos 0
    more_nowhere m n o = rw (elsewhere (N.branch j) (x j) w m n o, elsewhere (N.branch j) (x j) v m n o)

  -- any nodes moved, element by element
  pub shifted_none : (m : ℕ) → part_shifted N x v w 0 m ≡ net 1 N x v m +ℤ pos N.leak *ℤ (w m -ℤ v m)
  unfolding part_shifted sum
  shifted_none m = +ℤ_idr _

  pub shifted_more : (n m : ℕ) → part_shifted N x v w (n + 1) m ≡ part_shifted N x v w n m +ℤ more_by_branch N x v w m n
  unfolding part_shifted
  shifted_more n m = rw (sum_more (more_by_branch N x v w m) n) (sym (+ℤ_assoc (net 1 N x v m +ℤ pos N.leak *ℤ (w m -ℤ v m)) (sum (more_by_branch N x v w m) n) (more_by_branch N x v w m n)))

  pub shifted_all : (m : ℕ) → part_shifted N x v w N.count m ≡ net 1 N x w m
  unfolding part_shifted net
  shifted_all m =
      let old : ℕ → ℤ = λ j. leaving 1 (N.branch j) (x j) v m in
      let new : ℕ → ℤ = λ j. leaving 1 (N.branch j) (x j) w m in
      part m _ ∙ ap (λ (z : ℤ). pos N.leak *ℤ w m +ℤ z) (sum_changed old new N.count)

  module _ (limits : InLimits N) (kept : (j : ℕ) → j < N.count → Within stored_limit (x j)) (before : (j : ℕ) → j ≤ N.nodes → InRange (v j)) (after : (j : ℕ) → j ≤ N.nodes → InRange (w j)) where
    pub shifted_small : (n m : ℕ) → n ≤ N.count → m ≤ N.nodes → nat_abs (part_shifted N x v w n m) ≤ leak_limit * voltage_limit + branch_limit * current_bound
    unfolding part_shifted
    shifted_small n m few there =
        let old : ℕ → ℤ = λ j. leaving 1 (N.branch j) (x j) v m in
        let new : ℕ → ℤ = λ j. leaving 1 (N.branch j) (x j) w m in
        let mixed = sum old N.count +ℤ sum (more_by_branch N x v w m) n in
        let leak : N.leak * nat_abs (w m) ≤ leak_limit * voltage_limit = mul-le-mul limits.leak_small (after m there) in
        let many : N.count * current_bound ≤ branch_limit * current_bound = mul-le-mul limits.few_branches (le_refl current_bound) in
        let small = mixed_abs old new current_bound N.count n few (λ j l. (leaving_fits N limits x v kept before m j l, leaving_fits N limits x w kept after m j l)) in
        rw (part m (sum (more_by_branch N x v w m) n)) (omega (arith, abs_add (pos N.leak *ℤ w m) mixed, abs_mul (pos N.leak) (w m)))

module _ (N : Network) (x v w : ℕ → ℤ) (i : ℕ) where
  -- what one end gains the other loses, and no other node has more or less
  module _ (j : ℕ) (here : touches N i j ≡ true) where
    abbrev b : Branch
    b = N.branch j

    pub more_other : (b.p ≡ b.q → ⊥) → more_by_branch N x v w (other_end N i j) j ≡ neg_ℤ (more_by_branch N x v w i j)
    more_other apart = go (eqb i b.p) (eqb i b.q) refl refl here
      where
        go : (s t : Bool) → eqb i b.p ≡ s → eqb i b.q ≡ t → pick s t true true false ≡ true → more_by_branch N x v w (pick s t b.q b.p 0) j ≡ neg_ℤ (more_by_branch N x v w i j)
        go true t e f h =
            let new = flow b (x j) w in
            let old = flow b (x j) v in
            rw (at_p b (x j) w i (eqb-true i b.p e), at_p b (x j) v i (eqb-true i b.p e), at_q_lem b (x j) w b.q (λ z. apart (sym z)) refl, at_q_lem b (x j) v b.q (λ z. apart (sym z)) refl)
            (omega (signs, sub_law (neg_ℤ new) (neg_ℤ old), neg_law new, neg_law old, neg_law (new -ℤ old), sub_law new old))
        go false true e f h =
            let new = flow b (x j) w in
            let old = flow b (x j) v in
            rw (at_q_lem b (x j) w i (eqb-false i b.p e) (eqb-true i b.q f), at_q_lem b (x j) v i (eqb-false i b.p e) (eqb-true i b.q f), at_p b (x j) w b.p refl, at_p b (x j) v b.p refl)
            (omega (signs, sub_law new old, neg_law (neg_ℤ new -ℤ neg_ℤ old), sub_law (neg_ℤ new) (neg_ℤ old), neg_law new, neg_law old))
        go false false e f h = absurd (true≢false (sym h))

    pub more_elsewhere : (m : ℕ) → (m ≡ i → ⊥) → (m ≡ other_end N i j → ⊥) → more_by_branch N x v w m j ≡ pos 0
    more_elsewhere m n o = let not = go (eqb i b.p) (eqb i b.q) refl refl here o in rw (elsewhere b (x j) w m not.0 not.1, elsewhere b (x j) v m not.0 not.1)
      where
        go : (s t : Bool) → eqb i b.p ≡ s → eqb i b.q ≡ t → pick s t true true false ≡ true → (m ≡ pick s t b.q b.p 0 → ⊥) → (m ≡ b.p → ⊥) × (m ≡ b.q → ⊥)
        go true t e f h o = (λ z. n (z ∙ sym (eqb-true i b.p e)), o)
        go false true e f h o = (o, λ z. n (z ∙ sym (eqb-true i b.q f)))
        go false false e f h o = absurd (true≢false (sym h))

  -- an element that does not touch the node carries what it carried
  module _ (still : Still i v w) where
    more_none : (m j : ℕ) → touches N i j ≡ false → more_by_branch N x v w m j ≡ pos 0
    unfolding leaving
    more_none m j e =
        let b = N.branch j in
        let c = leaving 1 b (x j) v m in
        let away = go (eqb i b.p) (eqb i b.q) refl refl e in
        rw (still b.p away.0, still b.q away.1) (omega (signs, sub_law c c, pos_law 0))
      where
        go : (s t : Bool) → eqb i (N.branch j).p ≡ s → eqb i (N.branch j).q ≡ t → pick s t true true false ≡ false → ((N.branch j).p ≡ i → ⊥) × ((N.branch j).q ≡ i → ⊥)
        go true t e f h = absurd (true≢false h)
        go false true e f h = absurd (true≢false h)
        go false false e f h = (λ z. eqb-false i (N.branch j).p e (sym z), λ z. eqb-false i (N.branch j).q f (sym z))

    -- the law of a move
    pub moved_all : (m : ℕ) → part_moved N x v w i (length (elements_at N i)) m ≡ net 1 N x w m
    unfolding part_moved net
    moved_all m =
        let old : ℕ → ℤ = λ j. leaving 1 (N.branch j) (x j) v m in
        let new : ℕ → ℤ = λ j. leaving 1 (N.branch j) (x j) w m in
        part N x v w m _ ∙ ap (λ (d : ℤ). pos N.leak *ℤ w m +ℤ (sum old N.count +ℤ d)) (sum_named (touches N i) (more_by_branch N x v w m) (more_none m) N.count) ∙ ap (λ (z : ℤ). pos N.leak *ℤ w m +ℤ z) (sum_changed old new N.count)

    module _ (limits : InLimits N) (kept : (j : ℕ) → j < N.count → Within stored_limit (x j)) (before : (j : ℕ) → j ≤ N.nodes → InRange (v j)) (after : (j : ℕ) → j ≤ N.nodes → InRange (w j)) where
      pub moved_small : (t m : ℕ) → t ≤ length (elements_at N i) → m ≤ N.nodes → nat_abs (part_moved N x v w i t m) ≤ leak_limit * voltage_limit + branch_limit * current_bound
      unfolding part_moved
      moved_small t m few there =
          let old : ℕ → ℤ = λ j. leaving 1 (N.branch j) (x j) v m in
          let new : ℕ → ℤ = λ j. leaving 1 (N.branch j) (x j) w m in
          let is = sum_named_part (touches N i) (more_by_branch N x v w m) (more_none m) N.count t few in
          let mixed = sum old N.count +ℤ sum (more_by_branch N x v w m) is.0 in
          let leak : N.leak * nat_abs (w m) ≤ leak_limit * voltage_limit = mul-le-mul limits.leak_small (after m there) in
          let many : N.count * current_bound ≤ branch_limit * current_bound = mul-le-mul limits.few_branches (le_refl current_bound) in
          let small = mixed_abs old new current_bound N.count is.0 is.1 (λ j l. (leaving_fits N limits x v kept before m j l, leaving_fits N limits x w kept after m j l)) in
          rw (part N x v w m (sum (λ (u : ℕ). more_by_branch N x v w m (get_or (elements_at N i) u 0)) t), is.2)
          (omega (arith, abs_add (pos N.leak *ℤ w m) mixed, abs_mul (pos N.leak) (w m)))

      pub more_small : (m j : ℕ) → j < N.count → nat_abs (more_by_branch N x v w m j) ≤ 2 * current_bound
      more_small m j l =
          omega (
            arith,
            abs_sub (leaving 1 (N.branch j) (x j) w m) (leaving 1 (N.branch j) (x j) v m),
            leaving_fits N limits x v kept before m j l,
            leaving_fits N limits x w kept after m j l,
          )

  pub moved_none : (m : ℕ) → part_moved N x v w i 0 m ≡ net 1 N x v m +ℤ pos N.leak *ℤ (w m -ℤ v m)
  unfolding part_moved sum
  moved_none m = +ℤ_idr _

  pub moved_more : (t m : ℕ) → part_moved N x v w i (t + 1) m ≡ part_moved N x v w i t m +ℤ more_by_branch N x v w m (get_or (elements_at N i) t 0)
  unfolding part_moved
  moved_more t m =
      let more : ℕ → ℤ = λ u. more_by_branch N x v w m (get_or (elements_at N i) u 0) in
      rw (sum_more more t) (sym (+ℤ_assoc (net 1 N x v m +ℤ pos N.leak *ℤ (w m -ℤ v m)) (sum more t) (more t)))
