-- Errors that `?` hands on.
use Rattle.std.proofs.Common.{◌≡◌, sym, subst}
use Rattle.std.specs.Prelude.{Result, Ok, Err, IfErr, OnOk, OnErr, true}
use Rattle.std.specs.Result.{IsErr, IsErrAnd, is_err}
use Rattle.std.proofs.lemmas.Result.{err_from_is_err_and}

-- what holds of the error that was handed on holds of the result
pub passed_on : {T E : Type 0} (r : Result T E) (x : E) (P : E → Type 0) → IsErrAnd r (λ e. e ≡ x) → P x → IfErr r P
passed_on {T} {E} r x P is p = let q = err_from_is_err_and r is in subst (λ (s : Result T E). IfErr s P) (sym q.1) (subst P (sym q.2) p)

-- an error is no value
pub not_ok : {T E : Type 0} (r : Result T E) (P : Type 0) → IsErr r → OnOk r P
not_ok (Ok x) P is = cc
not_ok (Err e) P is = tt

-- what holds where it is an error holds then
pub on_err : {T E : Type 0} (r : Result T E) (P : Type 0) → true ≡ is_err r → OnErr r P → P
on_err (Ok x) P is holds = cc
on_err (Err e) P is holds = holds

-- what holds whatever came holds where it is an error
pub from_err : {T E : Type 0} (r : Result T E) (P : Type 0) → P → OnErr r P
from_err (Ok x) P p = tt
from_err (Err e) P p = p
