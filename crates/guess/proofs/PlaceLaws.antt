-- Places that are written one after the other, and the board's indices. Assumes nothing.
use Rattle.std.proofs.Common.{◌≡◌, ℕ, suc, ◌+◌, ◌<◌, ◌≤◌, Bool, true, false, eqb, List, length, set, ℤ, pos, refl, ◌∙◌, inl, inr, ⊎_elim, arith, length-set, get_or-set_other, get_or-set_same, eqb-true}
use borrow.Author.Tests.{eqb-false}
use Rattle.units.specs.Voltage.{InRange}
use Rattle.units.proofs.Integers.{decide_n}
use Rattle.network.specs.Network.{reading}
use Rattle.circuit.specs.Board.{nodes_on, driven_on, Laid, Ranged}
use Rattle.circuit.specs.Places.{Taken}
use Rattle.circuit.proofs.BoardLaws.{few_nodes, few_elements, p_node, q_node}
use Rattle.guess.specs.Proposal.{InPlaces, Standing, Proposed}

-- after a store at place i: what holds of the value, and of the other places, holds of every place j
after_set : (P : ℤ → Type 0) (l : List ℤ) (i j : ℕ) (v : ℤ) → i < length l → (j ≡ i → P v) → ((j ≡ i → ⊥) → P (reading l j)) → P (reading (set l i v) j)
after_set P l i j v short here there = go (eqb j i) refl
  where
    go : (b : Bool) → eqb j i ≡ b → P (reading (set l i v) j)
    go true e = let at = eqb-true j i e in rw (at, get_or-set_same l i v (pos 0) short) (here at)
    go false e = let other = eqb-false j i e in rw (get_or-set_other l i j v (pos 0) other) (there other)

-- the nodes below i stand in range
pub record StandingTo (volts : List ℤ) (i : ℕ) : Type 0 where
  pub long : length volts ≡ 16
  pub ranged : (j : ℕ) → j < i → InRange (reading volts j)

below : (i j : ℕ) → j < i + 1 → (j ≡ i → ⊥) → j < i
below i j l n = ⊎_elim (λ (h : suc j ≤ i). h) (λ (h : i < suc j). absurd (n (omega arith))) (decide_n (suc j) i)

-- one more
pub standing_more : (volts : List ℤ) (i : ℕ) (v : ℤ) → i < 16 → StandingTo volts i → InRange v → StandingTo (set volts i v) (i + 1)
standing_more volts i v place h inside =
    record {
      long = length-set volts i v ∙ h.long;
      ranged = λ j l. after_set InRange volts i j v (omega (arith, h.long)) (λ e. inside) (λ n. h.ranged j (below i j l n));
    }

pub standing_all : (board : List ℕ) (volts : List ℤ) (i : ℕ) → nodes_on board < i → StandingTo volts i → Standing board volts
standing_all board volts i past h = record { long = h.long; ranged = λ j l. h.ranged j (omega arith) }

-- .. at any place
pub standing_set : (board : List ℕ) (volts : List ℤ) (i : ℕ) (v : ℤ) → i < 16 → Standing board volts → InRange v → Standing board (set volts i v)
standing_set board volts i v place h inside =
    record {
      long = length-set volts i v ∙ h.long;
      ranged = λ j l. after_set InRange volts i j v (omega (arith, h.long)) (λ e. inside) (λ n. h.ranged j l);
    }

-- free nodes taken over from nodes in range
pub proposed_taken : (board : List ℕ) (from before after : List ℤ) → Ranged board from → Taken from (driven_on board + 1) (nodes_on board + 1) before after → Proposed board before after
proposed_taken board from before after ranged t =
    record {
      long = t.long;
      elsewhere = λ j h. t.elsewhere j (⊎_elim (λ (a : j ≤ driven_on board). inl (omega arith)) (λ (b : nodes_on board < j). inr (omega arith)) h);
      free = λ j a b. rw (t.taken j (omega arith) (omega arith)) (ranged j (omega arith));
    }

pub in_places : (board : List ℕ) (stretches : List ℤ) → Laid board stretches → InPlaces board
in_places board stretches laid =
    record {
      few_nodes = few_nodes board stretches laid;
      few_driven = laid.limits.wired.driven_there;
      few_elements = few_elements board stretches laid;
      p_there = p_node board stretches laid;
      q_there = q_node board stretches laid;
    }
