-- From an image to the first sample, and from what came of the samples to what comes back. Assumes nothing.
use mathlib.Core.Path.{◌≡◌, sym, ◌∙◌, ap, subst}
use mathlib.Core.Bool.{true, false}
use mathlib.Core.List.{List}
use Prim.Native.Nat.{ℕ, ◌≤◌}
use native.Mathlib.Omega.{arith}
use lib.IntN.{ℤ}
use lib.ListN.{length}
use Rattle.std.specs.Prelude.{Ok, Err}
use Rattle.units.specs.Number.{number_of}
use Rattle.units.specs.declared.number.Number.{Number}
use Rattle.units.specs.declared.number.Number.TheVariants as number
use Rattle.units.proofs.Numbers.{done_only}
use Rattle.network.specs.Network.{Network, InLimits}
use Rattle.image.specs.Conductance.{conductances_fit}
use Rattle.image.specs.Format.{opening_of, opened}
use Rattle.image.specs.Meaning.{network_at}
use Rattle.image.specs.Opened.{Read}
use Rattle.image.specs.Setting.{plain}
use Rattle.image.specs.Sound.{Sound}
use Rattle.image.specs.declared.parts.Parts.{Parts}
use Rattle.image.proofs.Opening.{opened_sound}
use Rattle.image.proofs.Promise.{read_opening, read_refused, read_never_done}
use Rattle.image.proofs.Sound.{in_limits}
use Rattle.circuit.specs.Board.{nodes_on, driven_on, network_on, Ready}
use Rattle.opening.specs.Opening.{board_of, stretches_of}
use Rattle.opening.proofs.BoardIs.{network_is, ready}
use Rattle.solve.specs.Sample.{Playable}
use Rattle.block.specs.Block.{block_limit, drive_at, StateLegal, LengthsFit, PlaysOn, state-refused, lengths-refused, sample-refused, done, image-refused, conductance-refused}
use Rattle.block.specs.Playing.{Admits, Room, state_of, Ran, all, short}
use Rattle.block.specs.declared.call.State.{State}

-- ---- the image

-- parts that an image is opened to can be played, and are heard
pub parts_limits : (image : List ℕ) (parts : Parts) → opening_of image ≡ opened parts → conductances_fit parts plain ≡ true → InLimits (network_at parts plain)
parts_limits image parts e t = in_limits parts plain (opened_sound image parts e).1 t

pub parts_heard : (image : List ℕ) (parts : Parts) → opening_of image ≡ opened parts → parts.output ≤ parts.nodes
parts_heard image parts e = (opened_sound image parts e).1.output_there

module _ (image : List ℕ) where
  -- refused by the reader
  pub admission_refused : (k : Number) → Read image (Err k) → Admits image (Err k)
  admission_refused k read = (λ z. read_never_done image k read (done_only k z), λ x n drives outputs. image-refused (read_refused image k read))

  -- let through by it: the conductances decide
  module _ (parts : Parts) (read : Read image (Ok parts)) where
    pub admission_done : conductances_fit parts plain ≡ true → Admits image (Ok parts)
    admission_done t = (read_opening image parts read, t)

    pub admission_conductance : conductances_fit parts plain ≡ false → Admits image (Err number.Conductance)
    admission_conductance f = (λ z. omega arith, λ x n drives outputs. conductance-refused (read_opening image parts read) f)

-- ---- the state, the lengths and the samples of a circuit

module _ (parts : Parts) (sound : Sound parts) (fits : conductances_fit parts plain ≡ true) (board : List ℕ) (stretches : List ℤ) (s : stretches ≡ stretches_of parts) (b : board ≡ board_of parts plain) where
  -- the board's network is the circuit's
  pub board_is : network_on board stretches ≡ network_at parts plain
  board_is = ap (λ (l : List ℕ). network_on l stretches) b ∙ ap (network_on (board_of parts plain)) s ∙ network_is parts plain 16 sound

  driven_is : driven_on board ≡ parts.driven
  driven_is = ap (λ (N : Network). N.driven) board_is

  nodes_are : nodes_on board ≡ parts.nodes
  nodes_are = ap (λ (N : Network). N.nodes) board_is

  module _ (x : List ℤ) (n : ℕ) (drives outputs : List ℕ) where
    abbrev On : ℕ → ℕ → State → List ℕ → Type 0
    On = PlaysOn parts (state_of x) n drives outputs

    abbrev Legal : Type 0
    Legal = StateLegal (network_on board stretches) (state_of x)

    abbrev Fit : Type 0
    Fit = LengthsFit parts.driven n (length drives) (length outputs)

    legal_parts : Legal → StateLegal (network_at parts plain) (state_of x)
    legal_parts l = subst (λ (N : Network). StateLegal N (state_of x)) board_is l

    pub state_no : (Legal → ⊥) → On (number_of number.State) 0 (state_of x) outputs
    state_no not = state-refused (λ l. not (subst (λ (N : Network). StateLegal N (state_of x)) (sym board_is) l))

    pub lengths_no : Legal → (Fit → ⊥) → On (number_of number.Lengths) 0 (state_of x) outputs
    lengths_no legal not = lengths-refused (legal_parts legal) not

    pub playable_first : Legal → Playable board stretches x
    playable_first legal =
        let r : Ready board stretches = rw (b, s) (ready parts plain sound (in_limits parts plain sound fits)) in
        record { ready = r; kept = λ j h. legal.kept j (omega (arith, r.laid.limits.few_branches, h)); long = legal.long }

    pub room_is : Fit → Room board parts.output n drives outputs
    room_is fit = record { heard = rw nodes_are sound.output_there; few = fit.few; driven = rw driven_is (omega (arith, fit.driven_enough)); room = omega (arith, fit.room) }

    played_parts : {y : List ℤ} {w : List ℕ} {k count : ℕ} → Legal → Fit → Ran (network_at parts plain) parts.output (drive_at drives parts.driven) x n outputs y w k count → On k count (state_of y) w × (count ≤ block_limit)
    played_parts legal fit (all run) = (done (record { legal = legal_parts legal; fit = fit }) run, fit.few)
    played_parts legal fit (short j r h run gives some) = (sample-refused {r = r} (record { legal = legal_parts legal; fit = fit }) h (record { run = run; gives = gives; some = some }), omega (arith, fit.few))

    pub ran_plays : {y : List ℤ} {w : List ℕ} {k count : ℕ} → Legal → Fit → Ran (network_on board stretches) parts.output (drive_at drives (driven_on board)) x n outputs y w k count → On k count (state_of y) w × (count ≤ block_limit)
    ran_plays {y = y} {w = w} {k = k} {count = count} legal fit ran = played_parts legal fit (moved (network_on board stretches) (driven_on board) board_is driven_is ran)
      where
        moved : (N : Network) (driven : ℕ) → N ≡ network_at parts plain → driven ≡ parts.driven → Ran N parts.output (drive_at drives driven) x n outputs y w k count → Ran (network_at parts plain) parts.output (drive_at drives parts.driven) x n outputs y w k count
        moved N driven e₁ e₂ ran = rw (e₁, e₂) at ran
