-- Errors that `?` hands on.
use Rattle.std.proofs.Common.{◌≡◌, sym, ap, ◌∙◌, subst}
use Rattle.std.specs.Prelude.{Result, Err}
use Rattle.std.specs.Result.{IsErrAnd}
use Rattle.std.proofs.lemmas.Result.{err_from_is_err_and}

-- what is so of the error that was handed on is so of the result
pub passed_on : {T E : Type 0} (r : Result T E) (x : E) (P : Result T E → Type 0) → IsErrAnd r (λ e. e ≡ x) → P (Err x) → P r
passed_on {T} {E} r x P is p = let q = err_from_is_err_and r is in subst P (sym (q.1 ∙ ap (λ (e : E). Err e) q.2)) p
