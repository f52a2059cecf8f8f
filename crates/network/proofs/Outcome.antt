-- A sample has one outcome only, and it depends on nothing but the stored currents and drives that are there. Assumes nothing.
use mathlib.Core.Path.{◌≡◌, refl, sym, ◌∙◌, ap}
use mathlib.Core.Logic.{inl, inr, ⊎_elim}
use Prim.Native.Nat.{ℕ, zero, suc, ◌≤◌, ◌<◌}
use native.Mathlib.Omega.{arith}
use lib.IntN.{ℤ, pos, ◌*ℤ◌}
use Rattle.units.specs.Integer.{sum}
use Rattle.units.proofs.Integers.{signs}
use Rattle.network.specs.Network.{Network, Wired, leaving, net, next}
use Rattle.network.specs.Sample.{Legal, Low, Answer, Empty, Rail, AtTop, BelowTop, Outcome, accepted, driveRefused, railRefused, storedRefused, DrivesLegal, Accepted, DriveRefused, StoredRefused, Gives, Same}

-- two answers stand alike at every node
pub one_answer : (N : Network) (x d v u : ℕ → ℤ) → Answer N x d v → Answer N x d u → (j : ℕ) → j ≤ N.nodes → v j ≡ u j
one_answer N x d v u a b j there = omega (signs, a.highest u b.legal b.low j there, b.highest v a.legal a.low j there)

-- an answer below the top is not refused by the rail
pub not_rail : (N : Network) (x d v : ℕ → ℤ) → Answer N x d v → BelowTop N v → Rail N x d → ⊥
not_rail N x d v a below (inl empty) = empty v a.legal a.low
not_rail N x d v a below (inr r) = at_top r.0 r.1 r.2
  where
    at_top : (u : ℕ → ℤ) → Answer N x d u → AtTop N u → ⊥
    at_top u b t = omega (signs, below t.node t.free, t.top, one_answer N x d v u a b t.node t.free.1)

-- what is stored next depends on the nodes that are there
same_next : (N : Network) (x v u : ℕ → ℤ) → Wired N → ((j : ℕ) → j ≤ N.nodes → v j ≡ u j) → (j : ℕ) → j < N.count → next N x v j ≡ next N x u j
unfolding next
same_next N x v u wired same j l = rw (same (N.branch j).p (wired.p_there j l), same (N.branch j).q (wired.q_there j l))

module _ (N : Network) (x d : ℕ → ℤ) (wired : Wired N) where
  no_drive : DrivesLegal N d → DriveRefused N d → ⊥
  no_drive legal r = omega (arith, legal r.drive r.there)

  -- an accepted sample has no new stored current beyond its limit
  no_stored : (v y : ℕ → ℤ) → Accepted N x d v y → StoredRefused N x d → ⊥
  no_stored v y a r =
      let j = r.branch in
      let e = a.stored j r.there ∙ same_next N x v r.voltages wired (one_answer N x d v r.voltages a.answer r.answer) j r.there in
      omega (arith, r.beyond, rw e at (a.kept j r.there))

  pub one_outcome : (o₁ o₂ : Outcome) → Gives N x d o₁ → Gives N x d o₂ → Same N x o₁ o₂
  one_outcome (accepted v y) (accepted u z) a b =
      let same = one_answer N x d v u a.answer b.answer in
      record { answer = refl; voltages = same; stored = λ j l. a.stored j l ∙ same_next N x v u wired same j l ∙ sym (b.stored j l) }
  one_outcome (accepted v y) driveRefused a b = absurd (no_drive a.drives b)
  one_outcome (accepted v y) railRefused a b = absurd (not_rail N x d v a.answer a.below b.rail)
  one_outcome (accepted v y) storedRefused a b = absurd (no_stored v y a b)
  one_outcome driveRefused (accepted u z) a b = absurd (no_drive b.drives a)
  one_outcome driveRefused driveRefused a b = record { answer = refl; voltages = λ j l. refl; stored = λ j l. refl }
  one_outcome driveRefused railRefused a b = absurd (no_drive b.drives a)
  one_outcome driveRefused storedRefused a b = absurd (no_drive b.drives a)
  one_outcome railRefused (accepted u z) a b = absurd (not_rail N x d u b.answer b.below a.rail)
  one_outcome railRefused driveRefused a b = absurd (no_drive a.drives b)
  one_outcome railRefused railRefused a b = record { answer = refl; voltages = λ j l. refl; stored = λ j l. refl }
  one_outcome railRefused storedRefused a b = absurd (not_rail N x d b.voltages b.answer b.below a.rail)
  one_outcome storedRefused (accepted u z) a b = absurd (no_stored u z b a)
  one_outcome storedRefused driveRefused a b = absurd (no_drive a.drives b)
  one_outcome storedRefused railRefused a b = absurd (not_rail N x d a.voltages a.answer a.below b.rail)
  one_outcome storedRefused storedRefused a b = record { answer = refl; voltages = λ j l. refl; stored = λ j l. refl }

-- ---- stored currents and drives that agree where they are read have the same outcomes: samples can be joined one to the next

sum_alike : (f g : ℕ → ℤ) (n : ℕ) → ((j : ℕ) → j < n → f j ≡ g j) → sum f n ≡ sum g n
unfolding sum
sum_alike f g zero same = refl
sum_alike f g (suc n) same = rw (sum_alike f g n (λ j l. same j (omega arith)), same n (omega arith))

legal_alike : (N : Network) (d₁ d₂ w : ℕ → ℤ) → ((j : ℕ) → j < N.driven → d₁ j ≡ d₂ j) → Legal N d₁ w → Legal N d₂ w
legal_alike N d₁ d₂ w same l = record { drives = record { ground = l.drives.ground; driven = λ j h. l.drives.driven j h ∙ ap (λ (z : ℤ). pos 1 *ℤ z) (same j h) }; range = l.range }

low_alike : (N : Network) (x₁ x₂ w : ℕ → ℤ) → ((j : ℕ) → j < N.count → x₁ j ≡ x₂ j) → Low N x₁ w → Low N x₂ w
unfolding net
low_alike N x₁ x₂ w same low i f =
    let part : (ℕ → ℤ) → ℕ → ℤ = λ x j. leaving 1 (N.branch j) (x j) w i in
    rw (← sum_alike (part x₁) (part x₂) N.count (λ j l. ap (λ (z : ℤ). leaving 1 (N.branch j) z w i) (same j l))) (low i f)

module _ (N : Network) (x₁ x₂ d₁ d₂ : ℕ → ℤ) (same-x : (j : ℕ) → j < N.count → x₁ j ≡ x₂ j) (same-d : (j : ℕ) → j < N.driven → d₁ j ≡ d₂ j) where
  next_alike : (v : ℕ → ℤ) (j : ℕ) → j < N.count → next N x₁ v j ≡ next N x₂ v j
  unfolding next
  next_alike v j l = rw (same-x j l)

  -- what is legal and low for the second is so for the first
  back : (w : ℕ → ℤ) → Legal N d₂ w → Low N x₂ w → Legal N d₁ w × Low N x₁ w
  back w legal low = (legal_alike N d₂ d₁ w (λ j l. sym (same-d j l)) legal, low_alike N x₂ x₁ w (λ j l. sym (same-x j l)) low)

  empty_alike : Empty N x₁ d₁ → Empty N x₂ d₂
  empty_alike none w legal low = let b = back w legal low in none w b.0 b.1

  answer_alike : (v : ℕ → ℤ) → Answer N x₁ d₁ v → Answer N x₂ d₂ v
  answer_alike v a = record {
    legal = legal_alike N d₁ d₂ v same-d a.legal;
    low = low_alike N x₁ x₂ v same-x a.low;
    highest = λ w legal low. let b = back w legal low in a.highest w b.0 b.1;
  }

  drives_alike : DrivesLegal N d₁ → DrivesLegal N d₂
  drives_alike h j l = rw (← same-d j l) (h j l)

  pub gives_alike : (o : Outcome) → Gives N x₁ d₁ o → Gives N x₂ d₂ o
  gives_alike (accepted v y) a = record { drives = drives_alike a.drives; answer = answer_alike v a.answer; below = a.below; stored = λ j l. a.stored j l ∙ next_alike v j l; kept = a.kept }
  gives_alike driveRefused r = record { drive = r.drive; there = r.there; beyond = rw (← same-d r.drive r.there) r.beyond }
  gives_alike railRefused r = record {
    drives = drives_alike r.drives;
    rail = ⊎_elim
        (λ (none : Empty N x₁ d₁). inl (empty_alike none))
        (λ (t : (v : ℕ → ℤ) × Answer N x₁ d₁ v × AtTop N v). inr (t.0, answer_alike t.0 t.1, t.2)) r.rail;
  }
  gives_alike storedRefused r = record {
    drives = drives_alike r.drives;
    voltages = r.voltages;
    answer = answer_alike r.voltages r.answer;
    below = r.below;
    branch = r.branch;
    there = r.there;
    beyond = rw (← next_alike r.voltages r.branch r.there) r.beyond;
  }

-- ---- so have voltages that agree at the nodes that are there

module _ (N : Network) (x d v u y : ℕ → ℤ) (wired : Wired N) (same : (j : ℕ) → j ≤ N.nodes → v j ≡ u j) where
  leaving_alike : (i j : ℕ) → j < N.count → leaving 1 (N.branch j) (x j) v i ≡ leaving 1 (N.branch j) (x j) u i
  unfolding leaving
  leaving_alike i j l = rw (same (N.branch j).p (wired.p_there j l), same (N.branch j).q (wired.q_there j l))

  net_alike : (i : ℕ) → i ≤ N.nodes → net 1 N x v i ≡ net 1 N x u i
  unfolding net
  net_alike i there = rw (same i there, sum_alike (λ (j : ℕ). leaving 1 (N.branch j) (x j) v i) (λ (j : ℕ). leaving 1 (N.branch j) (x j) u i) N.count (leaving_alike i))

  pub accepted_alike : Accepted N x d v y → Accepted N x d u y
  accepted_alike a = record {
    drives = a.drives;
    answer = record {
      legal = record {
        drives = record {
          ground = sym (same 0 (omega arith)) ∙ a.answer.legal.drives.ground;
          driven = λ j l. sym (same (suc j) (omega (arith, wired.driven_there))) ∙ a.answer.legal.drives.driven j l;
        };
        range = λ i f. rw (← same i f.1) (a.answer.legal.range i f);
      };
      low = λ i f. rw (← net_alike i f.1) (a.answer.low i f);
      highest = λ w legal low j l. rw (← same j l) (a.answer.highest w legal low j l);
    };
    below = λ i f. rw (← same i f.1) (a.below i f);
    stored = λ j l. a.stored j l ∙ same_next N x v u wired same j l;
    kept = a.kept;
  }
