use Rattle.std.proofs.Common.{rules}
use borrow.Author.Tests.{tests}
use Rattle.units.proofs.Tables.{padded_from_fn}
use Rattle.image.specs.Parts.{no_element}
use Rattle.image.specs.Format.{element_at}
use Rattle.image.proofs.element.elements_at.Goals as goal

pub returns : goal.returns
returns c = padded_from_fn _ no_element 32 (element_at c.args.image.now) c.args.n _ _ c.from_fn.ensures.items (λ i y q h k. search (rules, tests))
