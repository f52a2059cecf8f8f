use mathlib.Core.Path.{sym, ◌∙◌}
use Rattle.writing.proofs.Overlaying.{trailer_laid}
use Rattle.writing.proofs.trailer.put_trailer.Goals as goal

pub returns : goal.returns
returns c =
    (rw (c.put_unsigned-3.ensures, c.put_unsigned-2.ensures, c.put_unsigned.ensures) at c.put_unsigned-4.ensures) ∙ sym (trailer_laid _ _ _ _ _)
