-- Blocks can be cut anywhere: n samples, then m from the state that came back, are n + m samples. Assumes nothing.
use mathlib.Core.Path.{◌≡◌, refl, sym, ◌∙◌, ap, subst}
use mathlib.Core.List.{List, ◌++◌}
use mathlib.Core.Logic.{⊎_elim}
use Prim.Native.Nat.{ℕ, suc, ◌+◌, ◌*◌, ◌≤◌, ◌<◌}
use native.Mathlib.Omega.{arith}
use native.Mathlib.Nat.{add-zero, add-suc, mul-le-mul_right}
use lib.IntN.{ℤ, pos}
use lib.ListN.{length, length-append}
use mir.Syntax.{w32, w64}
use mir.Val.{to_z, of_z}
use Rattle.units.specs.Bytes.{little_endian, written}
use Rattle.units.proofs.Integers.{decide_n}
use Rattle.units.proofs.Joined.{first_read, second_read, first_written, second_written}
use Rattle.network.specs.Network.{nothing, Network, reading, advance, next}
use Rattle.network.specs.Sample.{Outcome, accepted, Gives, Accepted}
use Rattle.network.proofs.Outcome.{gives_alike}
use Rattle.image.specs.Meaning.{network_at}
use Rattle.image.specs.Setting.{plain}
use Rattle.image.specs.declared.parts.Parts.{Parts}
use Rattle.block.specs.Block.{drive_at, StateLegal, LengthsFit, Begins, start, sample, RunOf, Refuses, PlaysOn, state-refused, lengths-refused, sample-refused, done, Plays, image-refused, conductance-refused, plays-on}
use Rattle.block.specs.Cut.{CutAt, CutFor}
use Rattle.block.specs.declared.call.State.{State}
use Rattle.block.proofs.OneOutcome.{parts_once, clash, torn}
use Rattle.block.proofs.SampleLaws.{run_length}

-- ---- the state after accepted samples is legal again

legal_next : (N : Network) (y z : State) (d v : ℕ → ℤ) → StateLegal N y → Accepted N (reading y.currents) d v (reading z.currents) → length z.currents ≡ length y.currents → ((i : ℕ) → N.count ≤ i → reading z.currents i ≡ reading y.currents i) → StateLegal N z
unfolding next advance
legal_next N y z d v legal a long old = record {
  long = long ∙ legal.long;
  kept = λ i h. ⊎_elim (λ (m : N.count ≤ i). rw (old i m) (legal.kept i h)) (λ (m : i < N.count). a.kept i m) (decide_n N.count i);
  zeros = λ i h none. ⊎_elim (λ (m : N.count ≤ i). old i m ∙ legal.zeros i h none) (λ (m : i < N.count). a.stored i m ∙ unstored i none) (decide_n N.count i);
}
  where
    unstored : (i : ℕ) → (N.branch i).store ≡ nothing → next N (reading y.currents) v i ≡ pos 0
    unstored i none = rw none

pub legal_after : (parts : Parts) (drives : List ℕ) (x : State) (outputs : List ℕ) {j : ℕ} {y : State} {o : List ℕ} → StateLegal (network_at parts plain) x → RunOf parts drives x outputs j y o → StateLegal (network_at parts plain) y
legal_after parts drives x outputs legal start = legal
legal_after parts drives x outputs legal (sample {j = j} {y = y} {z = z} v r g l k) = legal_next (network_at parts plain) y z (drive_at drives parts.driven j) v (legal_after parts drives x outputs legal r) g l k

-- ---- samples of the parts are samples of the whole

module _ (parts : Parts) (x : State) (n : ℕ) (d₁ d₂ o₁ o₂ : List ℕ) (all-driven : length d₁ ≡ 4 * (n * parts.driven)) (all-heard : length o₁ ≡ 4 * n) where
  -- the drives of the first n samples are in the first part, the others' in the second
  first_drive : (j i : ℕ) → j < n → i < parts.driven → drive_at d₁ parts.driven j i ≡ drive_at (d₁ ++ d₂) parts.driven j i
  first_drive j i h there = ap (to_z w32) (sym (first_read 4 d₁ d₂ (4 * (j * parts.driven + i)) (omega (arith, all-driven, mul-le-mul_right parts.driven h))))

  second_drive : (j i : ℕ) → drive_at d₂ parts.driven j i ≡ drive_at (d₁ ++ d₂) parts.driven (n + j) i
  second_drive j i =
      let e : 4 * ((n + j) * parts.driven + i) ≡ length d₁ + 4 * (j * parts.driven + i) = omega (arith, all-driven) in
      ap (to_z w32) (sym (second_read 4 d₁ d₂ (4 * (j * parts.driven + i))) ∙ ap (little_endian 4 (d₁ ++ d₂)) (sym e))

  first_given : (j : ℕ) → j < n → (y : State) (r : Outcome) → Gives (network_at parts plain) (reading y.currents) (drive_at d₁ parts.driven j) r → Gives (network_at parts plain) (reading y.currents) (drive_at (d₁ ++ d₂) parts.driven j) r
  first_given j h y r g = gives_alike (network_at parts plain) (reading y.currents) (reading y.currents) (drive_at d₁ parts.driven j) (drive_at (d₁ ++ d₂) parts.driven j) (λ i m. refl) (λ i m. first_drive j i h m) r g

  second_given : (j : ℕ) (y : State) (r : Outcome) → Gives (network_at parts plain) (reading y.currents) (drive_at d₂ parts.driven j) r → Gives (network_at parts plain) (reading y.currents) (drive_at (d₁ ++ d₂) parts.driven (n + j)) r
  second_given j y r g = gives_alike (network_at parts plain) (reading y.currents) (reading y.currents) (drive_at d₂ parts.driven j) (drive_at (d₁ ++ d₂) parts.driven (n + j)) (λ i m. refl) (λ i m. second_drive j i) r g

  abbrev Whole : ℕ → State → List ℕ → Type 0
  Whole = RunOf parts (d₁ ++ d₂) x (o₁ ++ o₂)

  pub run_first : {j : ℕ} {y : State} {p : List ℕ} → j ≤ n → RunOf parts d₁ x o₁ j y p → Whole j y (p ++ o₂)
  run_first h start = start
  run_first h (sample {j = j} {y = y} {z = z} {o = p} v r g l k) =
      let e = first_written 4 p o₂ (4 * j) (of_z w64 (v parts.output)) (omega (arith, run_length r, all-heard)) in
      subst (Whole (suc j) z) e (sample v (run_first (omega arith) r) (first_given j h y (accepted v (reading z.currents)) g) l k)

  module _ {y : State} {p₁ : List ℕ} (first : RunOf parts d₁ x o₁ n y p₁) where
    pub run_second : {j : ℕ} {z : State} {p₂ : List ℕ} → RunOf parts d₂ y o₂ j z p₂ → Whole (n + j) z (p₁ ++ p₂)
    run_second start = rw (add-zero n) (run_first (omega arith) first)
    run_second (sample {j = j} {y = w} {z = z} {o = p} v r g l k) =
        let at : 4 * (n + j) ≡ length p₁ + 4 * j = omega (arith, run_length first, all-heard) in
        let e = ap (λ (i : ℕ). written 4 (p₁ ++ p) i (of_z w64 (v parts.output))) at ∙ second_written 4 p₁ p (4 * j) (of_z w64 (v parts.output)) in
        rw (add-suc n j) (subst (Whole (suc (n + j)) z) e (sample v (run_second r) (second_given j w (accepted v (reading z.currents)) g) l k))

    pub refuses_second : {j : ℕ} {z : State} {p₂ : List ℕ} {r : Outcome} → Refuses parts d₂ y o₂ j z p₂ r → Refuses parts (d₁ ++ d₂) x (o₁ ++ o₂) (n + j) z (p₁ ++ p₂) r
    refuses_second {j = j} {z = z} {r = r} f = record { run = run_second f.run; gives = second_given j z r f.gives; some = f.some }

  pub refuses_first : {j : ℕ} {y : State} {p : List ℕ} {r : Outcome} → j < n → Refuses parts d₁ x o₁ j y p r → Refuses parts (d₁ ++ d₂) x (o₁ ++ o₂) j y (p ++ o₂) r
  refuses_first {j = j} {y = y} {r = r} h f = record { run = run_first (omega arith) f.run; gives = first_given j h y r f.gives; some = f.some }

-- ---- the block

module _ (parts : Parts) (x : State) (n m : ℕ) (d₁ d₂ o₁ o₂ : List ℕ) (cut : CutAt parts.driven n m d₁ d₂ o₁ o₂) where
  abbrev On : ℕ → ℕ → State → List ℕ → Type 0
  On = PlaysOn parts x (n + m) (d₁ ++ d₂) (o₁ ++ o₂)

  -- the lengths of both parts fit too
  first_fits : LengthsFit parts.driven n (length d₁) (length o₁)
  first_fits = record { few = omega (arith, cut.fit.few); driven_enough = omega (arith, cut.drives); room = omega (arith, cut.outputs) }

  second_fits : LengthsFit parts.driven m (length d₂) (length o₂)
  second_fits = record {
    few = omega (arith, cut.fit.few);
    driven_enough = omega (arith, cut.drives, cut.fit.driven_enough, length-append d₁ d₂);
    room = omega (arith, cut.outputs, cut.fit.room, length-append o₁ o₂);
  }

  whole_begins : {drives outputs : List ℕ} {k : ℕ} → Begins parts x k drives outputs → Begins parts x (n + m) (d₁ ++ d₂) (o₁ ++ o₂)
  whole_begins b = record { legal = b.legal; fit = cut.fit }

  on_stops : {k c : ℕ} {y : State} {p : List ℕ} → 0 < k → PlaysOn parts x n d₁ o₁ k c y p → On k c y (p ++ o₂)
  on_stops some (state-refused not) = state-refused not
  on_stops some (lengths-refused legal not) = absurd (not first_fits)
  on_stops some (sample-refused {j = j} {r = r} b h f) = sample-refused {j = j} {r = r} (whole_begins b) (omega arith) (refuses_first parts x n d₁ d₂ o₁ o₂ cut.drives cut.outputs h f)
  on_stops some (done b run) = absurd (omega (arith, some))

  on_goes : {k₁ c₁ k₂ c₂ : ℕ} {y z : State} {p₁ p₂ : List ℕ} → k₁ ≡ 0 → PlaysOn parts x n d₁ o₁ k₁ c₁ y p₁ → PlaysOn parts y m d₂ o₂ k₂ c₂ z p₂ → On k₂ (c₁ + c₂) z (p₁ ++ p₂)
  on_goes none (state-refused not) q = absurd (omega (arith, none))
  on_goes none (lengths-refused legal not) q = absurd (omega (arith, none))
  on_goes none (sample-refused b h f) q = absurd (omega (arith, none, f.some))
  on_goes none (done b run) (state-refused not) = absurd (not (legal_after parts d₁ x o₁ b.legal run))
  on_goes none (done b run) (lengths-refused legal not) = absurd (not second_fits)
  on_goes none (done b run) (sample-refused {j = j} {r = r} c h f) = sample-refused {j = n + j} {r = r} (whole_begins b) (omega arith) (refuses_second parts x n d₁ d₂ o₁ o₂ cut.drives cut.outputs run f)
  on_goes none (done b run) (done c second) = done (whole_begins b) (run_second parts x n d₁ d₂ o₁ o₂ cut.drives cut.outputs run second)

module _ (image : List ℕ) (x : State) (n m : ℕ) (d₁ d₂ o₁ o₂ : List ℕ) (cut : CutFor image n m d₁ d₂ o₁ o₂) where
  abbrev Uncut : ℕ → ℕ → State → List ℕ → Type 0
  Uncut = Plays image x (n + m) (d₁ ++ d₂) (o₁ ++ o₂)

  -- where the first n samples are refused, or one of them is, so are all n + m: the same number, count and state, and the places after them untouched
  pub stops : {k c : ℕ} {y : State} {p : List ℕ} → 0 < k → Plays image x n d₁ o₁ k c y p → Uncut k c y (p ++ o₂)
  stops some (image-refused e) = image-refused e
  stops some (conductance-refused e f) = conductance-refused e f
  stops some (plays-on {parts = parts} e t p) = plays-on e t (on_stops parts x n m d₁ d₂ o₁ o₂ (cut parts e) some p)

  -- where they are accepted, what comes of the next m from there comes of all n + m: its number and state, the counts together, the places one after the other
  pub goes_on : {k₁ c₁ k₂ c₂ : ℕ} {y z : State} {p₁ p₂ : List ℕ} → k₁ ≡ 0 → Plays image x n d₁ o₁ k₁ c₁ y p₁ → Plays image y m d₂ o₂ k₂ c₂ z p₂ → Uncut k₂ (c₁ + c₂) z (p₁ ++ p₂)
  goes_on none (image-refused a) (image-refused b) = image-refused b
  goes_on none (image-refused a) (conductance-refused b f) = absurd (clash image a b)
  goes_on none (image-refused a) (plays-on b t q) = absurd (clash image a b)
  goes_on none (conductance-refused a f) q = absurd (omega (arith, none))
  goes_on none (plays-on a t p) (image-refused b) = absurd (clash image b a)
  goes_on none (plays-on a t p) (conductance-refused b f) = absurd (torn image b a f t)
  goes_on none (plays-on {parts = r} {k = k₁} {count = c₁} {y = y} {o = p₁} a t p) (plays-on {k = k₂} {count = c₂} {y = z} {o = p₂} b u q) =
      plays-on a t (on_goes r x n m d₁ d₂ o₁ o₂ (cut r a) none p (subst (λ (w : Parts). PlaysOn w y m d₂ o₂ k₂ c₂ z p₂) (parts_once image a b) q))
