-- A block has one outcome only: number, count, every stored current, every byte of outputs and of state. Assumes nothing.
use mathlib.Core.Path.{◌≡◌, refl, sym, ◌∙◌, ap, subst}
use mathlib.Core.Bool.{true, false}
use mathlib.Core.List.{List}
use mathlib.Core.Logic.{inl, inr, ⊎_elim}
use Prim.Native.Nat.{ℕ, ◌*◌, ◌≤◌, ◌<◌}
use native.Mathlib.Omega.{arith}
use lib.IntN.{ℤ, pos}
use lib.ListN.{length}
use lib.Seq.{ext_get_or}
use mir.Syntax.{w64}
use mir.Val.{of_z}
use Rattle.units.specs.Bytes.{written}
use Rattle.units.specs.Number.{number_of}
use Rattle.units.proofs.Integers.{decide_n}
use Rattle.units.specs.declared.number.Number.{Number}
use Rattle.network.specs.Network.{Network, reading, Wired}
use Rattle.network.specs.Sample.{Outcome, accepted, answer_of, Gives}
use Rattle.network.proofs.Outcome.{one_outcome}
use Rattle.image.specs.Conductance.{conductances_fit}
use Rattle.image.specs.Format.{opening_of, opened, refused}
use Rattle.image.specs.Meaning.{network_at}
use Rattle.image.specs.Setting.{plain}
use Rattle.image.specs.declared.parts.Parts.{Parts}
use Rattle.block.specs.Block.{Run, start, sample, RunOf, Refuses, PlaysOn, state-refused, lengths-refused, sample-refused, done, Plays, image-refused, conductance-refused, plays-on, drive_at}
use Rattle.block.specs.Call.{state_in, bytes_after, Called}
use Rattle.block.specs.declared.call.State.{State}
use Rattle.block.proofs.PlayLaws.{parts_limits, parts_heard}

-- ---- samples

module _ (N : ℕ → Network) (output : ℕ) (d : ℕ → ℕ → ℤ) (x : State) (outputs : List ℕ) (wired : (j : ℕ) → Wired (N j)) (heard : (j : ℕ) → output ≤ (N j).nodes) where
  abbrev R : ℕ → State → List ℕ → Type 0
  R = Run N output d x outputs

  -- one sample from the same state
  same_stored : (M : Network) → Wired M → (y z₁ z₂ : State) (v₁ v₂ : ℕ → ℤ) (e : ℕ → ℤ) → Gives M (reading y.currents) e (accepted v₁ (reading z₁.currents)) → Gives M (reading y.currents) e (accepted v₂ (reading z₂.currents)) → length z₁.currents ≡ length y.currents → length z₂.currents ≡ length y.currents → ((i : ℕ) → M.count ≤ i → reading z₁.currents i ≡ reading y.currents i) → ((i : ℕ) → M.count ≤ i → reading z₂.currents i ≡ reading y.currents i) → z₁ ≡ z₂
  same_stored M w y z₁ z₂ v₁ v₂ e g₁ g₂ l₁ l₂ k₁ k₂ =
      let s = one_outcome M (reading y.currents) e w (accepted v₁ (reading z₁.currents)) (accepted v₂ (reading z₂.currents)) g₁ g₂ in
      let same = ext_get_or (pos 0) z₁.currents z₂.currents (l₁ ∙ sym l₂) (λ i h. ⊎_elim (λ (m : M.count ≤ i). k₁ i m ∙ sym (k₂ i m)) (λ (m : i < M.count). s.stored i m) (decide_n M.count i)) in
      ap (λ (l : List ℤ). record { currents = l }) same

  pub run_once : {j : ℕ} {y₁ y₂ : State} {o₁ o₂ : List ℕ} → R j y₁ o₁ → R j y₂ o₂ → (y₁ ≡ y₂) × (o₁ ≡ o₂)
  run_once start start = (refl, refl)
  run_once (sample {j = j} {y = y₁} {z = z₁} {o = o₁} v₁ r₁ g₁ l₁ k₁) (sample {y = y₂} {z = z₂} {o = o₂} v₂ r₂ g₂ l₂ k₂) = more (run_once r₁ r₂)
    where
      more : (y₁ ≡ y₂) × (o₁ ≡ o₂) → (z₁ ≡ z₂) × (written 4 o₁ (4 * j) (of_z w64 (v₁ output)) ≡ written 4 o₂ (4 * j) (of_z w64 (v₂ output)))
      more ih =
          let back : y₂ ≡ y₁ = sym ih.0 in
          let g = subst (λ (y : State). Gives (N j) (reading y.currents) (d j) (accepted v₂ (reading z₂.currents))) back g₂ in
          let s = one_outcome (N j) (reading y₁.currents) (d j) (wired j) (accepted v₁ (reading z₁.currents)) (accepted v₂ (reading z₂.currents)) g₁ g in
          (same_stored (N j) (wired j) y₁ z₁ z₂ v₁ v₂ (d j) g₁ g l₁ (l₂ ∙ ap (λ (y : State). length y.currents) back) k₁ (λ i m. k₂ i m ∙ ap (λ (y : State). reading y.currents i) back), rw (ih.1, s.voltages output (heard j)))

  -- a sample that was passed was accepted
  record Passed (j : ℕ) : Type 0 where
    before : State
    bytes : List ℕ
    voltages : ℕ → ℤ
    after : State
    run : R j before bytes
    gives : Gives (N j) (reading before.currents) (d j) (accepted voltages (reading after.currents))

  passed : {m : ℕ} {y : State} {o : List ℕ} (j : ℕ) → j < m → R m y o → Passed j
  passed j h start = absurd (omega arith)
  passed j h (sample {j = i} {y = y} {z = z} {o = o} v r g l k) = ⊎_elim
      (λ (m : j < i). passed j m r)
      (λ (m : i ≤ j). let e : i ≡ j = omega arith in subst Passed e (record { before = y; bytes = o; voltages = v; after = z; run = r; gives = g }))
      (⊎_elim (λ (a : i ≤ j). inr a) (λ (a : j < i). inl a) (decide_n i j))

  -- .. and so was not refused
  pub not_refused : {m j : ℕ} {y w : State} {o p : List ℕ} (r : Outcome) → R m y o → j < m → R j w p → Gives (N j) (reading w.currents) (d j) r → 0 < number_of (answer_of r) → ⊥
  not_refused {j = j} {w = w} r run h there gives some =
      let q = passed j h run in
      let e = (run_once q.run there).0 in
      let g = subst (λ (y : State). Gives (N j) (reading y.currents) (d j) (accepted q.voltages (reading q.after.currents))) e q.gives in
      let s = one_outcome (N j) (reading w.currents) (d j) (wired j) (accepted q.voltages (reading q.after.currents)) r g gives in
      omega (arith, ap number_of s.answer)

  -- two refusals come at the same sample, by the same number
  pub record SameRefusal (i j : ℕ) (r s : Outcome) (y w : State) (o p : List ℕ) : Type 0 where
    pub count : i ≡ j
    pub answer : answer_of r ≡ answer_of s
    pub state : y ≡ w
    pub bytes : o ≡ p

  here : (j : ℕ) (y w : State) (o p : List ℕ) (r s : Outcome) → R j y o → Gives (N j) (reading y.currents) (d j) r → R j w p → Gives (N j) (reading w.currents) (d j) s → SameRefusal j j r s y w o p
  here j y w o p r s run₁ g₁ run₂ g₂ =
      let e = run_once run₁ run₂ in
      let g = subst (λ (y : State). Gives (N j) (reading y.currents) (d j) r) e.0 g₁ in
      record { count = refl; answer = (one_outcome (N j) (reading w.currents) (d j) (wired j) r s g g₂).answer; state = e.0; bytes = e.1 }

  pub refused_once : (i j : ℕ) (y w : State) (o p : List ℕ) (r s : Outcome) → R i y o → Gives (N i) (reading y.currents) (d i) r → 0 < number_of (answer_of r) → R j w p → Gives (N j) (reading w.currents) (d j) s → 0 < number_of (answer_of s) → SameRefusal i j r s y w o p
  refused_once i j y w o p r s run₁ g₁ n₁ run₂ g₂ n₂ = ⊎_elim
      (λ (a : i ≤ j). ⊎_elim
      (λ (b : j ≤ i). same (omega arith))
      (λ (b : i < j). absurd (not_refused r run₂ b run₁ g₁ n₁)) (decide_n j i))
      (λ (a : j < i). absurd (not_refused s run₁ a run₂ g₂ n₂)) (decide_n i j)
    where
      same : i ≡ j → SameRefusal i j r s y w o p
      same e = subst (λ (k : ℕ). SameRefusal i k r s y w o p) e (here i y w o p r s run₁ g₁ (subst (λ (k : ℕ). R k w p) (sym e) run₂) (subst (λ (k : ℕ). Gives (N k) (reading w.currents) (d k) s) (sym e) g₂))

-- ---- the block

-- what comes back of a block, put beside what else might
pub record SamePlay (n₁ n₂ c₁ c₂ : ℕ) (y₁ y₂ : State) (o₁ o₂ : List ℕ) : Type 0 where
  pub number : n₁ ≡ n₂
  pub count : c₁ ≡ c₂
  pub state : y₁ ≡ y₂
  pub bytes : o₁ ≡ o₂

same_play : {n c : ℕ} {y : State} {o : List ℕ} → SamePlay n n c c y y o o
same_play = record { number = refl; count = refl; state = refl; bytes = refl }

-- once the circuit stands
module _ (parts : Parts) (x : State) (n : ℕ) (drives outputs : List ℕ) (wired : Wired (network_at parts plain)) (heard : parts.output ≤ parts.nodes) where
  abbrev On : ℕ → ℕ → State → List ℕ → Type 0
  On = PlaysOn parts x n drives outputs

  abbrev N : ℕ → Network
  N j = network_at parts plain

  abbrev d : ℕ → ℕ → ℤ
  d = drive_at drives parts.driven

  not_done : {j : ℕ} {y w : State} {o p : List ℕ} {r : Outcome} → RunOf parts drives x outputs n y o → j < n → Refuses parts drives x outputs j w p r → ⊥
  not_done {r = r} run h f = not_refused N parts.output d x outputs (λ j. wired) (λ j. heard) r run h f.run f.gives f.some

  pub on_once : {n₁ n₂ c₁ c₂ : ℕ} {y₁ y₂ : State} {o₁ o₂ : List ℕ} → On n₁ c₁ y₁ o₁ → On n₂ c₂ y₂ o₂ → SamePlay n₁ n₂ c₁ c₂ y₁ y₂ o₁ o₂
  on_once (state-refused k) (state-refused m) = same_play
  on_once (state-refused k) (lengths-refused m l) = absurd (k m)
  on_once (state-refused k) (sample-refused b h f) = absurd (k b.legal)
  on_once (state-refused k) (done b run) = absurd (k b.legal)
  on_once (lengths-refused k l) (state-refused m) = absurd (m k)
  on_once (lengths-refused k l) (lengths-refused m q) = same_play
  on_once (lengths-refused k l) (sample-refused b h f) = absurd (l b.fit)
  on_once (lengths-refused k l) (done b run) = absurd (l b.fit)
  on_once (sample-refused b h f) (state-refused m) = absurd (m b.legal)
  on_once (sample-refused b h f) (lengths-refused m q) = absurd (q b.fit)
  on_once (sample-refused {j = i} {y = y} {o = o} {r = r} b h f) (sample-refused {j = j} {y = w} {o = p} {r = s} c g e) =
      let q = refused_once N parts.output d x outputs (λ j. wired) (λ j. heard) i j y w o p r s f.run f.gives f.some e.run e.gives e.some in
      record { number = ap number_of q.answer; count = q.count; state = q.state; bytes = q.bytes }
  on_once (sample-refused b h f) (done c run) = absurd (not_done run h f)
  on_once (done b run) (state-refused m) = absurd (m b.legal)
  on_once (done b run) (lengths-refused m q) = absurd (q b.fit)
  on_once (done b run) (sample-refused c h f) = absurd (not_done run h f)
  on_once (done b run) (done c run₂) =
      let q = run_once N parts.output d x outputs (λ j. wired) (λ j. heard) run run₂ in
      record { number = refl; count = refl; state = q.0; bytes = q.1 }

-- of any image
module _ (image : List ℕ) where
  -- the two openings of an image agree
  pub parts_once : {p q : Parts} → opening_of image ≡ opened p → opening_of image ≡ opened q → q ≡ p
  parts_once a b = cc

  number_once : {k m : Number} → opening_of image ≡ refused k → opening_of image ≡ refused m → k ≡ m
  number_once a b = cc

  pub clash : {k : Number} {p : Parts} → opening_of image ≡ refused k → opening_of image ≡ opened p → ⊥
  clash a b = let z : ◌≡◌ {A = ℕ} 0 1 = cc in omega arith

  -- one setting, two verdicts on the conductances
  pub torn : {p q : Parts} → opening_of image ≡ opened p → opening_of image ≡ opened q → conductances_fit p plain ≡ false → conductances_fit q plain ≡ true → ⊥
  torn a b f t = let e = sym f ∙ ap (λ (r : Parts). conductances_fit r plain) (sym (parts_once a b)) ∙ t in let z : ◌≡◌ {A = ℕ} 0 1 = cc in omega arith

module _ (image : List ℕ) (x : State) (n : ℕ) (drives outputs : List ℕ) where
  abbrev P : ℕ → ℕ → State → List ℕ → Type 0
  P = Plays image x n drives outputs

  pub plays_once : {n₁ n₂ c₁ c₂ : ℕ} {y₁ y₂ : State} {o₁ o₂ : List ℕ} → P n₁ c₁ y₁ o₁ → P n₂ c₂ y₂ o₂ → SamePlay n₁ n₂ c₁ c₂ y₁ y₂ o₁ o₂
  plays_once (image-refused a) (image-refused b) = record { number = ap number_of (number_once image a b); count = refl; state = refl; bytes = refl }
  plays_once (image-refused a) (conductance-refused b f) = absurd (clash image a b)
  plays_once (image-refused a) (plays-on b t p) = absurd (clash image a b)
  plays_once (conductance-refused a f) (image-refused b) = absurd (clash image b a)
  plays_once (conductance-refused a f) (conductance-refused b g) = same_play
  plays_once (conductance-refused a f) (plays-on b t p) = absurd (torn image a b f t)
  plays_once (plays-on a t p) (image-refused b) = absurd (clash image b a)
  plays_once (plays-on a t p) (conductance-refused b f) = absurd (torn image b a f t)
  plays_once (plays-on {parts = r} {k = k₁} {count = c₁} {y = y₁} {o = o₁} a t p) (plays-on {parts = s} {k = k₂} {count = c₂} {y = y₂} {o = o₂} b u q) =
      on_once r x n drives outputs (parts_limits image r a t).wired (parts_heard image r a) p (subst (λ (w : Parts). PlaysOn w x n drives outputs k₂ c₂ y₂ o₂) (parts_once image a b) q)

-- the C call: its answer, every byte of state and every byte of outputs
pub called_once : (image bytes : List ℕ) (n : ℕ) (drives outputs : List ℕ) {a₁ a₂ : ℕ} {s₁ s₂ o₁ o₂ : List ℕ} → Called image bytes n drives outputs a₁ s₁ o₁ → Called image bytes n drives outputs a₂ s₂ o₂ → (a₁ ≡ a₂) × (s₁ ≡ s₂) × (o₁ ≡ o₂)
called_once image bytes n drives outputs c₁ c₂ =
    let s = plays_once image (state_in bytes) n drives outputs c₁.plays c₂.plays in
    let kept : bytes_after bytes c₁.after c₁.count ≡ bytes_after bytes c₂.after c₂.count = both s.state s.count in
    (c₁.packed ∙ rw (s.number, s.count) (sym c₂.packed), c₁.kept ∙ kept ∙ sym c₂.kept, s.bytes)
  where
    both : {y z : State} {c e : ℕ} → y ≡ z → c ≡ e → bytes_after bytes y c ≡ bytes_after bytes z e
    both {y = y} {c = c} p q = ap (λ (w : State). bytes_after bytes w c) p ∙ ap (bytes_after bytes _) q
