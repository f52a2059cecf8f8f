use mathlib.Core.Path.{◌≡◌, ◌∙◌, ap}
use Prim.Native.Nat.{ℕ, ◌+◌}
use mathlib.Core.List.{List}
use lib.ListN.{set}
use Rattle.network.specs.Network.{Network, steepest}
use Rattle.image.specs.Setting.{plain}
use Rattle.image.proofs.Sound.{in_limits}
use Rattle.circuit.specs.Board.{network_on}
use Rattle.opening.specs.Opening.{board_to, stretches_of}
use Rattle.opening.proofs.BoardIs.{unindexed, network_is, laid, index_made, sums_more}
use Rattle.opening.proofs.numbers.fill.Goals as goal

pub fill_index-requires : goal.fill_index-requires
fill_index-requires c =
    rw (c.lay_all.ensures, c.stretches.ensures) (unindexed c.args.parts plain c.requires.fit.0 (in_limits c.args.parts plain c.requires.fit.0 c.requires.fit.1))

pub loop-i-init : goal.loop-i-init
loop-i-init c = record {
  board = c.fill_index.ensures.board ∙ index_made c.args.parts plain c.requires.fit.0 _ _ c.lay_all.ensures c.stretches.ensures;
  stretches = c.fill_index.ensures.stretches ∙ c.stretches.ensures;
}

pub steepest-sum-requires : goal.steepest-sum-requires
steepest-sum-requires c =
    let h = c.loop-i.invariant in
    rw (h.board, h.stretches) (laid c.args.parts plain c.loop-i.i c.requires.fit.0 (in_limits c.args.parts plain c.requires.fit.0 c.requires.fit.1))

pub loop-i-preserved : goal.loop-i-preserved
loop-i-preserved c =
    let h = c.loop-i.invariant in
    let n = c.loop-i.circuit in
    let N : network_on n.board n.stretches ≡ network_on (board_to c.args.parts plain c.loop-i.i) (stretches_of c.args.parts) = ap (λ (b : List ℕ). network_on b n.stretches) h.board ∙ ap (network_on (board_to c.args.parts plain c.loop-i.i)) h.stretches in
    let sum = c.steepest-sum.ensures ∙ ap (λ (M : Network). steepest M c.loop-i.i) (N ∙ network_is c.args.parts plain c.loop-i.i c.requires.fit.0) in
    record {
      board = ap (λ (b : List ℕ). set b (4 + c.loop-i.i) c.steepest-sum.result) h.board ∙ sums_more c.args.parts plain c.loop-i.i c.steepest-sum.result c.loop-i-test.true sum;
      stretches = h.stretches;
    }
