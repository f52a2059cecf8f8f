use mathlib.Core.Path.{◌≡◌, ◌∙◌}
use mir.Syntax.{w64}
use mir.Val.{to_z, of_z}
use borrow.Author.Rules.{rules}
use Rattle.network.specs.Network.{reading}
use Rattle.circuit.specs.Board.{across_on}
use Rattle.circuit.proofs.BoardLaws.{ends, across_fits}
use Rattle.circuit.proofs.Circuit.flow.Goals as goal

pub across-requires : goal.across-requires
across-requires c = ends _ _ c.requires.0.ready.laid c.args.j c.requires.1 _ c.requires.0.ranged

-- the stored current and the voltage, as numbers with a sign
at_stored : (c : goal.After-across) → to_z w64 (of_z w64 (reading c.args.stored.now c.args.j)) ≡ reading c.args.stored.now c.args.j
at_stored c = search rules

at-across : (c : goal.After-across) → to_z w64 (of_z w64 c.across.result) ≡ across_on c.args.self.now.board c.args.volts.now c.args.j
at-across c =
    let e : to_z w64 (of_z w64 c.across.result) ≡ c.across.result = search rules in
    e ∙ c.across.ensures

pub carried-requires : goal.carried-requires
carried-requires c = (
  c.requires.0.ready.laid,
  c.requires.1,
  rw (at_stored c) (c.requires.0.kept c.args.j c.requires.1),
  rw (at-across c) (across_fits c.args.self.now.board c.args.self.now.stretches c.requires.0.ready.laid c.args.j c.requires.1 c.args.volts.now c.requires.0.ranged),
)
