-- What a host reads of a call: the sample that an output comes from, and the sample that a refusal speaks of. Assumes nothing.
use mathlib.Core.Path.{◌≡◌, refl, ◌∙◌, ap, subst}
use mathlib.Core.List.{List}
use mathlib.Core.Logic.{◌⊎◌, inl, inr, ⊎_elim}
use Prim.Native.Nat.{ℕ, zero, suc, ◌+◌, ◌*◌, ◌≤◌, ◌<◌}
use native.Mathlib.Omega.{arith}
use lib.IntN.{ℤ}
use lib.ListN.{length, get_or}
use mir.Syntax.{w32, w64}
use mir.Val.{to_z, of_z}
use Rattle.units.specs.Bytes.{little_endian, written}
use Rattle.units.specs.Number.{number_of}
use Rattle.units.specs.Voltage.{voltage_limit}
use Rattle.units.proofs.Integers.{decide_n}
use Rattle.units.proofs.LittleEndian.{written_else, signed_read}
use Rattle.units.proofs.Machine.{fits_half}
use Rattle.network.specs.Network.{Network, Wired, reading}
use Rattle.network.specs.Sample.{Outcome, accepted, driveRefused, railRefused, storedRefused, answer_of, Accepted, Gives}
use Rattle.network.proofs.Ranges.{legal_in_range}
use Rattle.image.specs.declared.parts.Parts.{Parts}
use Rattle.image.proofs.Opening.{refused_early}
use Rattle.block.specs.Block.{drive_at, Run, start, sample, RunOf, Refuses, PlaysOn, state-refused, lengths-refused, sample-refused, done, Plays, image-refused, conductance-refused, plays-on}
use Rattle.block.specs.Call.{state_in}
use Rattle.block.specs.Host.{output_at, SampleAt, circuitOf, storedBefore, drivesOf}
use Rattle.block.specs.declared.call.State.{State}
use Rattle.block.proofs.OneOutcome.{run_once, not_refused, refused_once, parts_once, clash, torn}
use Rattle.block.proofs.PlayLaws.{parts_limits, parts_heard}
use Rattle.block.proofs.SampleLaws.{run_length}

-- the numbers of refused samples are 9 to 11
pub late : (r : Outcome) → 0 < number_of (answer_of r) → 9 ≤ number_of (answer_of r)
late (accepted v y) some = absurd (omega (arith, some))
late driveRefused some = omega arith
late railRefused some = omega arith
late storedRefused some = omega arith

-- ---- an output is the voltage of its sample

pub read_alike : (n : ℕ) (s t : List ℕ) (at : ℕ) → ((k : ℕ) → k < at + n → get_or s k 0 ≡ get_or t k 0) → little_endian n s at ≡ little_endian n t at
unfolding little_endian
read_alike zero s t at same = refl
read_alike (suc n) s t at same = rw (same at (omega arith), read_alike n s t (at + 1) (λ k h. same k (omega arith)))

-- sample j of a run, and its output in the bytes o
pub record HeardAt (N : ℕ → Network) (output : ℕ) (d : ℕ → ℕ → ℤ) (x : State) (outputs : List ℕ) (j : ℕ) (o : List ℕ) : Type 0 where
  pub before : State
  pub bytes : List ℕ
  pub voltages : ℕ → ℤ
  pub after : State
  pub run : Run N output d x outputs j before bytes
  pub accepts : Accepted (N j) (reading before.currents) (d j) voltages (reading after.currents)
  pub heard : output_at o j ≡ voltages output

pub heard_at : {N : ℕ → Network} {output : ℕ} {d : ℕ → ℕ → ℤ} {x : State} {outputs : List ℕ} {m : ℕ} {y : State} {o : List ℕ} (j : ℕ) → ((i : ℕ) → output ≤ (N i).nodes) → Run N output d x outputs m y o → 4 * m ≤ length outputs → j < m → HeardAt N output d x outputs j o
heard_at j there start room h = absurd (omega arith)
heard_at {N = N} {output = output} {d = d} {x = x} {outputs = outputs} j there (sample {j = i} {y = y} {z = z} {o = p} v r g l k) room h = ⊎_elim
    (λ (m : i ≤ j). let e : i ≡ j = omega arith in subst (λ (a : ℕ). HeardAt N output d x outputs a (written 4 p (4 * i) (of_z w64 (v output)))) e last)
    (λ (m : j < i). earlier m (heard_at j there r (omega (arith, room)) m)) (decide_n i j)
  where
    last : HeardAt N output d x outputs i (written 4 p (4 * i) (of_z w64 (v output)))
    last = record {
      before = y;
      bytes = p;
      voltages = v;
      after = z;
      run = r;
      accepts = g;
      heard = signed_read w32 32 4 refl refl p (4 * i) (v output) (fits_half (v output) voltage_limit (legal_in_range (N i) (d i) v g.answer.legal g.drives output (there i)) (omega arith)) (omega (arith, room, run_length r));
    }

    earlier : j < i → HeardAt N output d x outputs j p → HeardAt N output d x outputs j (written 4 p (4 * i) (of_z w64 (v output)))
    earlier m q = record {
      before = q.before;
      bytes = q.bytes;
      voltages = q.voltages;
      after = q.after;
      run = q.run;
      accepts = q.accepts;
      heard = ap (to_z w32) (read_alike 4 (written 4 p (4 * i) (of_z w64 (v output))) p (4 * j) (λ k b. written_else 4 p (4 * i) (of_z w64 (v output)) k (inl (omega arith)))) ∙ q.heard;
    }

-- ---- every sample up to the count, and the one that is refused, is reached

-- a run up to some sample has gone through every one before it
up_to : {N : ℕ → Network} {output : ℕ} {d : ℕ → ℕ → ℤ} {x : State} {outputs : List ℕ} {m : ℕ} {y : State} {o : List ℕ} (j : ℕ) → j ≤ m → Run N output d x outputs m y o → (z : State) × (p : List ℕ) × Run N output d x outputs j z p
up_to {x = x} {outputs = outputs} j h start = let e : j ≡ 0 = omega arith in rw e (x, outputs, start)
up_to {output = output} j h (sample {j = i} {z = z} {o = p} v r g l k) = ⊎_elim
    (λ (m : j ≤ i). up_to j m r)
    (λ (m : i < j). let e : j ≡ suc i = omega arith in rw e (z, written 4 p (4 * i) (of_z w64 (v output)), sample v r g l k)) (decide_n j i)

module _ {image bytes : List ℕ} {n : ℕ} {drives outputs : List ℕ} where
  pub reaches : {k c : ℕ} {y : State} {o : List ℕ} → Plays image (state_in bytes) n drives outputs k c y o → (k ≡ 0) ⊎ (9 ≤ k) → (j : ℕ) → j ≤ c → j < n → SampleAt image bytes n drives outputs j
  reaches (image-refused {k = k} e) said j h there = let early = refused_early image k e in absurd (⊎_elim (λ (z : number_of k ≡ 0). omega (arith, z, early.0)) (λ (z : 9 ≤ number_of k). omega (arith, z, early.1)) said)
  reaches (conductance-refused e f) said j h there = absurd (⊎_elim (λ (z : ◌≡◌ {A = ℕ} 6 0). omega (arith, z)) (λ (z : 9 ≤ 6). omega (arith, z)) said)
  reaches (plays-on e t (state-refused not)) said j h there = absurd (⊎_elim (λ (z : ◌≡◌ {A = ℕ} 7 0). omega (arith, z)) (λ (z : 9 ≤ 7). omega (arith, z)) said)
  reaches (plays-on e t (lengths-refused legal not)) said j h there = absurd (⊎_elim (λ (z : ◌≡◌ {A = ℕ} 8 0). omega (arith, z)) (λ (z : 9 ≤ 8). omega (arith, z)) said)
  reaches (plays-on {parts = parts} e t (sample-refused b m f)) said j h there = let u = up_to j h f.run in record { parts = parts; opens = e; conducts = t; begins = b; there = there; state = u.0; written = u.1; run = u.2 }
  reaches (plays-on {parts = parts} e t (done b run)) said j h there = let u = up_to j h run in record { parts = parts; opens = e; conducts = t; begins = b; there = there; state = u.0; written = u.1; run = u.2 }

-- ---- of a call, where sample j is reached

module _ {image bytes : List ℕ} {n : ℕ} {drives outputs : List ℕ} {j : ℕ} (s : SampleAt image bytes n drives outputs j) where
  abbrev N : ℕ → Network
  N i = circuitOf s

  abbrev d : ℕ → ℕ → ℤ
  d = drive_at drives s.parts.driven

  wired : (i : ℕ) → Wired (N i)
  wired i = (parts_limits image s.parts s.opens s.conducts).wired

  there : (i : ℕ) → s.parts.output ≤ (N i).nodes
  there i = parts_heard image s.parts s.opens

  -- what came back is what came of the samples
  pub data Came : (number count : ℕ) → List ℕ → Type 0 where
    short : {i : ℕ} {y : State} {o : List ℕ} (r : Outcome) → i < n → Refuses s.parts drives (state_in bytes) outputs i y o r → Came (number_of (answer_of r)) i o
    whole : {y : State} {o : List ℕ} → RunOf s.parts drives (state_in bytes) outputs n y o → Came 0 n o

  on_came : {k c : ℕ} {y : State} {o : List ℕ} → PlaysOn s.parts (state_in bytes) n drives outputs k c y o → Came k c o
  on_came (state-refused not) = absurd (not s.begins.legal)
  on_came (lengths-refused legal not) = absurd (not s.begins.fit)
  on_came (sample-refused {r = r} b h f) = short r h f
  on_came (done b run) = whole run

  pub came : {k c : ℕ} {y : State} {o : List ℕ} → Plays image (state_in bytes) n drives outputs k c y o → Came k c o
  came (image-refused e) = absurd (clash image e s.opens)
  came (conductance-refused e f) = absurd (torn image e s.opens f s.conducts)
  came (plays-on {k = k} {count = c} {y = y} {o = o} e t p) = on_came (subst (λ (w : Parts). PlaysOn w (state_in bytes) n drives outputs k c y o) (parts_once image s.opens e) p)

  -- the state that it is played from is the only one
  pub same_state : {y : State} {o : List ℕ} → RunOf s.parts drives (state_in bytes) outputs j y o → y ≡ s.state
  same_state run = (run_once N s.parts.output d (state_in bytes) outputs wired there run s.run).0

  -- accepted: its voltages are heard in its place
  pub record Accepts (o : List ℕ) : Type 0 where
    pub voltages : ℕ → ℤ
    pub after : ℕ → ℤ
    pub accepts : Accepted (circuitOf s) (storedBefore s) (drivesOf s) voltages after
    pub heard : output_at o j ≡ voltages s.parts.output

  run_accepts : {m : ℕ} {y : State} {o : List ℕ} → RunOf s.parts drives (state_in bytes) outputs m y o → m ≤ n → j < m → Accepts o
  run_accepts {o = o} run few h =
      let q = heard_at j there run (omega (arith, few, s.begins.fit.room)) h in
      record { voltages = q.voltages; after = reading q.after.currents; accepts = rw (ap (λ (y : State). reading y.currents) (same_state q.run)) at q.accepts; heard = q.heard }

  pub accepts : {k c : ℕ} {o : List ℕ} → Came k c o → j < c → Accepts o
  accepts (short r h f) l = run_accepts f.run (omega arith) l
  accepts (whole run) l = run_accepts run (omega arith) l

  -- refused: by its outcome's number
  pub refused_by : {k c : ℕ} {o : List ℕ} → Came k c o → c ≡ j → (r : Outcome) × Gives (circuitOf s) (storedBefore s) (drivesOf s) r × (k ≡ number_of (answer_of r))
  refused_by (short {y = y} {o = o} r h f) e =
      let run = subst (λ (a : ℕ). RunOf s.parts drives (state_in bytes) outputs a y o) e f.run in
      (r, rw (e, ap (λ (w : State). reading w.currents) (same_state run)) at f.gives, refl)
  refused_by (whole run) e = absurd (omega (arith, e, s.there))

  -- .. and whatever outcome refuses it is what comes back
  pub refuses : {k c : ℕ} {o : List ℕ} → Came k c o → (r : Outcome) → Gives (circuitOf s) (storedBefore s) (drivesOf s) r → 0 < number_of (answer_of r) → (k ≡ number_of (answer_of r)) × (c ≡ j)
  refuses (short {i = i} {y = y} {o = o} q h f) r g some =
      let e = refused_once N s.parts.output d (state_in bytes) outputs wired there i j y s.state o s.written q r f.run f.gives f.some s.run g some in
      (ap number_of e.answer, e.count)
  refuses (whole run) r g some = absurd (not_refused N s.parts.output d (state_in bytes) outputs wired there r run s.there s.run g some)

  -- accepted or refused
  pub reached : {k c : ℕ} {o : List ℕ} → Came k c o → (j < c) ⊎ ((c ≡ j) × (9 ≤ k))
  reached (short {i = i} r h f) = ⊎_elim
      (λ (a : j < i). inl a)
      (λ (a : i ≤ j). ⊎_elim (λ (b : j ≤ i). inr (omega arith, late r f.some)) (λ (b : i < j). absurd (not_refused N s.parts.output d (state_in bytes) outputs wired there r s.run b f.run f.gives f.some)) (decide_n j i))
      (⊎_elim (λ (a : i ≤ j). inr a) (λ (a : j < i). inl a) (decide_n i j))
  reached (whole run) = inl s.there
