use borrow.Author.Tests.{eq-eqb, ne_eqb}
use Rattle.image.specs.Meaning.{leak_of}
use Rattle.image.specs.Parts.{version1}
use Rattle.image.proofs.conductances.leak.Goals as goal

-- `image::conductances::leak` meets its contract. By the version's one test. Assumes nothing.
pub returns-then-version-eq-VERSION_1 : goal.returns-then-version-eq-VERSION_1
unfolding leak_of
returns-then-version-eq-VERSION_1 c = rw (eq-eqb _ version1 c.if-version-eq-VERSION_1.true)

pub returns : goal.returns
unfolding leak_of
returns c = rw (ne_eqb _ version1 c.if-version-eq-VERSION_1.false)
