use mathlib.Core.Path.{sym, ◌∙◌}
use borrow.Author.Rules.{rules}
use Rattle.image.proofs.Says.{few_elements}
use Rattle.image.proofs.Opening.{trailer_says, headed, furnished, whole}
use Rattle.image.proofs.reader.read.Goals as goal

pub sizes_fit-requires : goal.sizes_fit-requires
sizes_fit-requires c = headed _ _ (search rules) c.header_of-header.ensures (sym c.trailer_fits.ensures ∙ c.if-not-trailer_fits.false)

pub filled-parts-requires : goal.filled-parts-requires
filled-parts-requires c =
    furnished _ _ c.header_of-header.ensures (sym c.trailer_fits.ensures ∙ c.if-not-trailer_fits.false) (sym c.sizes_fit.ensures ∙ c.if-not-sizes_fit.false)

pub curve_bytes_fit-requires : goal.curve_bytes_fit-requires
curve_bytes_fit-requires c =
    whole _ _ c.filled-parts.ensures (sym c.trailer_fits.ensures ∙ c.if-not-trailer_fits.false) (sym c.sizes_fit.ensures ∙ c.if-not-sizes_fit.false)

pub elements_fit-requires : goal.elements_fit-requires
elements_fit-requires c = rw c.filled-parts.ensures (few_elements _ (trailer_says _ (sym c.trailer_fits.ensures ∙ c.if-not-trailer_fits.false)))
