-- One sample: that each of its ends is the outcome that network defines, and the only one. Assumes nothing.
use mathlib.Core.Path.{◌≡◌, refl, sym, ◌∙◌, ap, subst}
use mathlib.Core.Bool.{Bool, true, false}
use mathlib.Core.List.{List}
use mathlib.Core.Logic.{inl, inr, ⊎_elim}
use Prim.Native.Nat.{ℕ, zero, suc, ◌+◌, ◌≤◌, ◌<◌}
use native.Mathlib.Omega.{arith}
use lib.IntN.{ℤ, pos, nat_abs}
use lib.Signed.{◌≤ℤ◌, ◌<ℤ◌}
use Rattle.std.specs.Bool.{MatchBool}
use lib.Seq.{ext_get_or}
use Rattle.units.specs.Number.{number_of}
use Rattle.units.specs.Voltage.{voltage_limit, drive_limit, InDrive}
use Rattle.units.specs.declared.number.Number.{Number}
use Rattle.units.specs.declared.number.Number.TheVariants.{Done, Drive, Rail, Stored}
use Rattle.units.proofs.Integers.{signs, pos_law, abs_law, decide_n}
use Rattle.units.proofs.Numbers.{done_only}
use Rattle.network.specs.Network.{Network, Free, Wired, reading}
use Rattle.network.specs.Sample.{Answer, Empty, accepted, driveRefused, railRefused, storedRefused}
use Rattle.network.proofs.Outcome.{one_outcome, accepted_alike}
use Rattle.network.proofs.Ranges.{legal_in_range}
use Rattle.circuit.specs.Board.{nodes_on, driven_on, network_on, Ranged}
use Rattle.circuit.specs.Advance.{AllKept, StoredTo}
use Rattle.circuit.specs.Places.{Taken}
use Rattle.solve.specs.Answer.{drives_at}
use Rattle.solve.proofs.RangeLaws.{Each, One, each_of, one_of}
use Rattle.solve.specs.Sample.{DrivesTested, TopTested, Playable, Sampled, passed, refused, Leaves}

-- ---- what is tested over a range

pub drives_tested : (board : List ℕ) (volts : List ℤ) (r : Bool) → MatchBool r (Each (λ (j : ℕ). InDrive (drives_at volts j)) 0 (driven_on board)) (One (λ (j : ℕ). drive_limit < nat_abs (drives_at volts j)) 0 (driven_on board)) → DrivesTested board volts r
drives_tested board volts true h = λ j l. each_of (λ (j : ℕ). InDrive (drives_at volts j)) 0 (driven_on board) h j (omega arith) l
drives_tested board volts false h = let k = one_of (λ (j : ℕ). drive_limit < nat_abs (drives_at volts j)) 0 (driven_on board) h in (k.0, k.2, k.3)

pub top_tested : (board : List ℕ) (volts : List ℤ) (r : Bool) → MatchBool r (One (λ (i : ℕ). pos voltage_limit ≤ℤ reading volts i) (driven_on board + 1) (nodes_on board + 1)) (Each (λ (i : ℕ). reading volts i <ℤ pos voltage_limit) (driven_on board + 1) (nodes_on board + 1)) → TopTested board volts r
top_tested board volts true h = let k = one_of (λ (i : ℕ). pos voltage_limit ≤ℤ reading volts i) (driven_on board + 1) (nodes_on board + 1) h in (k.0, omega (arith, k.1), omega (arith, k.2), k.3)
top_tested board volts false h = λ i above there. each_of (λ (i : ℕ). reading volts i <ℤ pos voltage_limit) (driven_on board + 1) (nodes_on board + 1) h i (omega arith) (omega arith)

-- ---- how a sample ends

module _ (board : List ℕ) (stretches volts stored : List ℤ) where
  pub drive_refused : {v : List ℤ} → DrivesTested board volts false → Sampled (network_on board stretches) (drives_at volts) stored stored v Drive
  drive_refused t = refused driveRefused (record { drive = t.0; there = t.1; beyond = t.2 }) (omega arith) refl

  module _ (legal : DrivesTested board volts true) where
    pub empty_refused : {v : List ℤ} → Empty (network_on board stretches) (reading stored) (drives_at volts) → Sampled (network_on board stretches) (drives_at volts) stored stored v Rail
    empty_refused none = refused railRefused (record { drives = legal; rail = inl none }) (omega arith) refl

    module _ (v : List ℤ) (answer : Answer (network_on board stretches) (reading stored) (drives_at volts) (reading v)) where
      pub answer_ranged : Ranged board v
      answer_ranged = legal_in_range (network_on board stretches) (drives_at volts) (reading v) answer.legal legal

      pub top_refused : TopTested board v true → Sampled (network_on board stretches) (drives_at volts) stored stored v Rail
      top_refused t =
          let free : Free (network_on board stretches) t.0 = (t.1, t.2) in
          let top : reading v t.0 ≡ pos voltage_limit = omega (signs, t.3, answer.legal.range t.0 free, abs_law (reading v t.0), pos_law voltage_limit) in
          refused railRefused (record { drives = legal; rail = inr (reading v, answer, record { node = t.0; free = free; top = top }) }) (omega arith) refl

      module _ (below : TopTested board v false) (y : List ℤ) where
        pub sample_accepted : AllKept board stretches v stored true → StoredTo board stretches v stored (network_on board stretches).count y → Sampled (network_on board stretches) (drives_at volts) stored y v Done
        sample_accepted kept new = passed (record { drives = legal; answer = answer; below = λ i f. below i f.0 f.1; stored = new.new; kept = λ j l. rw (new.new j l) (kept j l) }) new.long new.old

        pub stored_refused : AllKept board stretches v stored false → y ≡ stored → Sampled (network_on board stretches) (drives_at volts) stored y v Stored
        stored_refused beyond same = refused storedRefused (record {
          drives = legal;
          voltages = reading v;
          answer = answer;
          below = λ i f. below i f.0 f.1;
          branch = beyond.0;
          there = beyond.1;
          beyond = beyond.2;
        }) (omega arith) same

-- ---- what it leaves, u being the voltages before it and v what the search came to

module _ {N : Network} {x y u v : List ℤ} {r : Number} (came : Sampled N (drives_at u) x y v r) where
  -- accepted, and the nodes taken over from v
  pub heard : {w : List ℤ} → Wired N → number_of r ≡ 0 → Taken v 0 (N.nodes + 1) u w → Leaves N x y u w r
  heard {w = w} wired none t = record { outcome = told came none; long = t.long; past = λ i l. t.elsewhere i (inr (omega arith)); unheard = λ some. absurd (omega (arith, none)) }
    where
      told : {q : Number} → Sampled N (drives_at u) x y v q → number_of q ≡ 0 → Sampled N (drives_at u) x y w q
      told (passed a long old) z = passed (accepted_alike N (reading x) (drives_at u) (reading v) (reading w) (reading y) wired (λ j l. sym (t.taken j (omega arith) (omega arith))) a) long old
      told (refused q g some same) z = absurd (omega (arith, z))

  -- refused, and nothing taken over
  pub unheard : (number_of r ≡ 0 → ⊥) → Leaves N x y u u r
  unheard some = record { outcome = told came some; long = refl; past = λ i l. refl; unheard = λ l. refl }
    where
      told : {q : Number} → Sampled N (drives_at u) x y v q → (number_of q ≡ 0 → ⊥) → Sampled N (drives_at u) x y u q
      told (passed a long old) n = absurd (n refl)
      told (refused q g some same) n = refused q g some same

-- ---- from one sample to the next

-- whatever came of a sample, the stored currents are still within their limit
pub playable_after : {board : List ℕ} {stretches stored y v : List ℤ} {d : ℕ → ℤ} {r : Number} → Playable board stretches stored → Sampled (network_on board stretches) d stored y v r → Playable board stretches y
playable_after g (passed gives long old) = record { ready = g.ready; kept = gives.kept; long = long ∙ g.long }
playable_after {board} {stretches} g (refused r gives n e) = subst (λ (l : List ℤ). Playable board stretches l) (sym e) g

-- ---- one outcome

-- one number and one stored current in every place
sampled_once : {N : Network} {d : ℕ → ℤ} {x y₁ y₂ v₁ v₂ : List ℤ} {r₁ r₂ : Number} → Wired N → Sampled N d x y₁ v₁ r₁ → Sampled N d x y₂ v₂ r₂ → (r₁ ≡ r₂) × (y₁ ≡ y₂) × (r₁ ≡ Done → (j : ℕ) → j ≤ N.nodes → reading v₁ j ≡ reading v₂ j)
sampled_once {N} {d} {x} {y₁} {y₂} {v₁} {v₂} wired (passed a l₁ old₁) (passed b l₂ old₂) =
    let same = one_outcome N (reading x) d wired (accepted (reading v₁) (reading y₁)) (accepted (reading v₂) (reading y₂)) a b in (
      refl,
      ext_get_or (pos 0) y₁ y₂ (l₁ ∙ sym l₂) (λ j l. ⊎_elim (λ (h : N.count ≤ j). old₁ j h ∙ sym (old₂ j h)) (λ (h : j < N.count). same.stored j h) (decide_n N.count j)),
      λ e. same.voltages,
    )
sampled_once {N} {d} {x} {y₁ = y} {v₁ = v} wired (passed a l old) (refused r b n e) = absurd (omega (arith, n, ap number_of (one_outcome N (reading x) d wired (accepted (reading v) (reading y)) r a b).answer))
sampled_once {N} {d} {x} {y₂ = y} {v₂ = v} wired (refused r a n e) (passed b l old) = absurd (omega (arith, n, ap number_of (one_outcome N (reading x) d wired r (accepted (reading v) (reading y)) a b).answer))
sampled_once {N} {d} {x} wired (refused r a n e) (refused q b m f) = ((one_outcome N (reading x) d wired r q a b).answer, e ∙ sym f, λ z. absurd (omega (arith, n, ap number_of z)))

-- what a sample promises leaves one number, and one content of both arrays
pub leaves_once : {N : Network} {x y₁ y₂ u v₁ v₂ : List ℤ} {r₁ r₂ : Number} → Wired N → Leaves N x y₁ u v₁ r₁ → Leaves N x y₂ u v₂ r₂ → (r₁ ≡ r₂) × (y₁ ≡ y₂) × (v₁ ≡ v₂)
leaves_once {N} {x} {y₁} {y₂} {u} {v₁} {v₂} {r₁} {r₂} wired a b = let once = sampled_once wired a.outcome b.outcome in (once.0, once.1, volts (number_of r₁) refl once.0 once.2)
  where
    volts : (n : ℕ) → number_of r₁ ≡ n → r₁ ≡ r₂ → (r₁ ≡ Done → (j : ℕ) → j ≤ N.nodes → reading v₁ j ≡ reading v₂ j) → v₁ ≡ v₂
    volts zero none same nodes = ext_get_or (pos 0) v₁ v₂ (a.long ∙ sym b.long) (λ i l. ⊎_elim (λ (h : i ≤ N.nodes). nodes (done_only r₁ none) i h) (λ (h : N.nodes < i). a.past i h ∙ sym (b.past i h)) (decide_n i N.nodes))
    volts (suc n) some same nodes = a.unheard (omega (arith, some)) ∙ sym (b.unheard (omega (arith, some, ap number_of same)))
