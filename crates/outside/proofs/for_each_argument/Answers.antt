use Rattle.std.proofs.Common.{◌≡◌, rules, refl, sym, subst, Result, Ok, Err, IfErr}
use Rattle.std.specs.Result.{IsErrAnd}
use Rattle.std.proofs.lemmas.Fn.{says_at}
use Rattle.outside.proofs.for_each_argument.Goals as goal

-- what is handed on by `?` is what it was
handed_on : {T E : Type 0} (r : Result T E) (e : E) (P : E → Type 0) → IsErrAnd r (λ y. y ≡ e) → P e → IfErr r P
handed_on (Ok x) e P is p = tt
handed_on (Err y) e P is p = subst P (sym is) p

pub returns-in_err-act : goal.returns-in_err-act
returns-in_err-act g c =
    handed_on c.from_residual.result c.in_err-act.field-0.0 _ c.from_residual.ensures.1 (_, search rules, says_at g.F.Fn c.in_err-act.ensures refl)
