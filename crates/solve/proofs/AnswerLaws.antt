-- The whole search: where it begins, and that each way to its end is the answer or none. Assumes nothing.
use mathlib.Core.Path.{◌≡◌, sym, ◌∙◌}
use mathlib.Core.Bool.{Bool, true, false}
use mathlib.Core.List.{List}
use Prim.Native.Nat.{ℕ, zero, suc, ◌≤◌}
use native.Mathlib.Omega.{arith}
use lib.IntN.{ℤ}
use Rattle.units.specs.Voltage.{InRange}
use Rattle.units.proofs.Integers.{scale_one}
use Rattle.units.proofs.Clamping.{clamped_ranged}
use Rattle.network.specs.Network.{Network, reading}
use Rattle.network.specs.Sample.{Legal, Above, Answer, Empty}
use Rattle.network.proofs.Nodes.{by_node}
use Rattle.network.proofs.Hold.{start, top_start}
use Rattle.network.proofs.Ranges.{legal_in_range}
use Rattle.network.proofs.Settle.{settling_start, settled_answer, none_empty}
use Rattle.circuit.specs.Board.{nodes_on, driven_on, network_on, Evaluable}
use Rattle.circuit.specs.Nets.{Netted}
use Rattle.std.proofs.Common.{Result, Ok, Err}
use Rattle.solve.specs.declared.settle.NoneInRange.{NoneInRange}
use Rattle.solve.specs.Search.{Searching, Down, Nowhere, Came}
use Rattle.solve.specs.Climb.{Topped}
use Rattle.solve.specs.Answer.{drives_at, seat_of, Seated, Start, Solvable, Solved}

-- ---- where it begins

seat_ranged : (top : Bool) (v : ℤ) → InRange (seat_of top v)
seat_ranged true v = omega arith
seat_ranged false v = clamped_ranged v

module _ {board : List ℕ} {top : Bool} {given after : List ℤ} (seated : Seated board top given after) where
  seated_legal : (stretches : List ℤ) → Legal (network_on board stretches) (drives_at given) (reading after)
  seated_legal stretches = record {
    drives = record { ground = seated.ground; driven = λ j l. seated.driven j l ∙ sym (scale_one (drives_at given j)) };
    range = λ i f. rw (seated.free i f.0 f.1) (seat_ranged top (reading given i));
  }

  -- what a search begins with
  pub seated_evaluable : {stretches stored : List ℤ} → Solvable board stretches stored given → Evaluable board stretches stored after
  seated_evaluable {stretches} s = record { ready = s.ready; kept = s.kept; ranged = legal_in_range (network_on board stretches) (drives_at given) (reading after) (seated_legal stretches) s.drives }

  pub seated_searching : {stretches stored nets : List ℤ} → Solvable board stretches stored given → Netted board stretches stored after nets → Searching board stretches stored after nets
  seated_searching s netted = record { evaluable = seated_evaluable s; long = seated.long; ground = seated.ground; netted = netted }

  -- seated once more, every node is where it was
  seated_once : {again : List ℤ} → Seated board top given again → (stretches : List ℤ) (j : ℕ) → j ≤ nodes_on board → reading after j ≡ reading again j
  seated_once {again} other stretches = by_node (network_on board stretches) (λ (j : ℕ). reading after j ≡ reading again j) fixed (λ j f. seated.free j f.0 f.1 ∙ sym (other.free j f.0 f.1))
    where
      fixed : (j : ℕ) → j ≤ driven_on board → reading after j ≡ reading again j
      fixed zero l = seated.ground ∙ sym other.ground
      fixed (suc j) l = seated.driven j l ∙ sym (other.driven j l)

-- ---- how it ends

module _ (board : List ℕ) (stretches stored given after : List ℤ) where
  abbrev N : Network
  N = network_on board stretches

  -- from the top
  module _ {top : List ℤ} (seated : Seated board true given top) where
    above : Above (network_on board stretches) (reading stored) (drives_at given) (reading top)
    above = top_start N (reading stored) (drives_at given) (reading top) (seated_legal seated stretches).drives (λ i f. seated.free i f.0 f.1)

    pub top_solved : (r : Result Unit NoneInRange) → Came board stretches stored top after r → Solved board stretches stored given after r
    top_solved (Ok _) h = settled_answer N (reading stored) (drives_at given) (reading top) (reading after) above (record { settling = h.0.settling (drives_at given) (reading top) (settling_start N (reading stored) (drives_at given) (reading top) (seated_legal seated stretches)); low = h.1 })
    top_solved (Err _) h = none_empty N (reading stored) (drives_at given) (reading top) above (h (drives_at given) (reading top) (settling_start N (reading stored) (drives_at given) (reading top) (seated_legal seated stretches)))

  -- from a proposal: settled and climbed
  module _ {begun : List ℤ} (seated : Seated board false given begun) where
    pub climbed : {rest : List ℤ} → Down board stretches stored begun rest → Topped board stretches stored rest after → Answer (network_on board stretches) (reading stored) (drives_at given) (reading after)
    climbed down topped = topped (drives_at given) (down.settling (drives_at given) (reading begun) (settling_start N (reading stored) (drives_at given) (reading begun) (seated_legal seated stretches))).legal

    -- nothing below it, and once more seated it is a start
    pub start_nothing : {again : List ℤ} → Solvable board stretches stored given → Seated board false given again → Start board stretches stored again → Nowhere board stretches stored begun → Empty (network_on board stretches) (reading stored) (drives_at given)
    start_nothing {again} s other st none = none_empty N (reading stored) (drives_at given) (reading begun) over (none (drives_at given) (reading begun) (settling_start N (reading stored) (drives_at given) (reading begun) (seated_legal seated stretches)))
      where
        over : Above (network_on board stretches) (reading stored) (drives_at given) (reading begun)
        over w legal low j l =
            rw (seated_once seated other stretches j l)
            (start N (reading stored) (drives_at given) (reading again) s.ready.laid.limits.wired s.ready.laid.limits.leaks (seated_legal other stretches).drives st w legal low j l)
