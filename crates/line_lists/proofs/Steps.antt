-- What was read in steps.
use Rattle.std.proofs.Common.{◌≡◌, refl, sym, ap, ◌∙◌, false, true}
use Rattle.std.specs.Prelude.{Result, Ok, Err, IsTrue, Bool, if◌then◌else◌}
use Rattle.line_fields.specs.declared.fault.LineErr.{LineErr}
use Rattle.line_fields.specs.declared.fault.LineErr.TheVariants as errors
use Rattle.line_fields.specs.Fields.{◌>>=◌, tested}

-- what was read in two steps
pub from_steps : {A B : Type 0} (r : Result A LineErr) (f : A → Result B LineErr) (y : B) → (r >>= f) ≡ Ok y → (x : A) × (r ≡ Ok x) × (f x ≡ Ok y)
from_steps (Ok x) f y e = (x, refl, e)
from_steps (Err error) f y e = cc

-- what passed a test
pub from_tested : {A : Type 0} (test : A → Bool) (x y : A) → tested test x ≡ Ok y → IsTrue (test y)
from_tested test x y e = by (test x) refl e
  where
    by : (b : Bool) → test x ≡ b → (if b then Ok x else Err errors.Form) ≡ Ok y → test y ≡ true
    by true passes read = let same : x ≡ y = cc in ap test (sym same) ∙ passes
    by false fails read = cc

-- what passed a test is as it was
pub tested_same : {A : Type 0} (test : A → Bool) (x y : A) → tested test x ≡ Ok y → x ≡ y
tested_same test x y e = by (test x) e
  where
    by : (b : Bool) → (if b then Ok x else Err errors.Form) ≡ Ok y → x ≡ y
    by true read = cc
    by false read = cc
