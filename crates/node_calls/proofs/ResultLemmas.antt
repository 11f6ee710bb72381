-- Errors that `?` hands on.
use Rattle.std.proofs.Common.{◌≡◌, sym, subst}
use Rattle.std.specs.Prelude.{Result, IfErr}
use Rattle.std.specs.Result.{IsErrAnd}
use Rattle.std.proofs.lemmas.Result.{err_from_is_err_and}

-- what holds of the error that was handed on holds of the result
pub passed_on : {T E : Type 0} (r : Result T E) (x : E) (P : E → Type 0) → IsErrAnd r (λ e. e ≡ x) → P x → IfErr r P
passed_on {T} {E} r x P is p = let q = err_from_is_err_and r is in subst (λ (s : Result T E). IfErr s P) (sym q.1) (subst P (sym q.2) p)
