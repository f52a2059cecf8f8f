use mathlib.Core.Path.{sym, ◌∙◌}
use Rattle.writing.proofs.Overlaying.{element_laid}
use Rattle.writing.proofs.element.put_element.Goals as goal

pub returns : goal.returns
returns c = c.put_unsigned.ensures ∙ sym (element_laid _ _ _)
