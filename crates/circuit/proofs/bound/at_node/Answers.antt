use Rattle.circuit.proofs.BoundLaws.{here}
use Rattle.circuit.proofs.bound.at_node.Goals as goal

pub returns : goal.returns
returns c = here c.args.steepest c.args.held c.args.e c.requires.0 c.checked_add.result (rw c.rounded_up-rest.ensures at c.checked_add.ensures)
