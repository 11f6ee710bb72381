-- What a count that stays constant tells of a call.
use Rattle.std.specs.Prelude.{◌≡◌, ℕ, ◌<◌, List, [], Result, Ok, IsOk}
use Rattle.m3_outside.specs.Causes.{last_count, HasCause, CountsStalls}
use Rattle.m3_outside.specs.declared.failed.Failed.{Failed}

-- the count is below its last value, and is the same afterwards
pub record IsConstant (before now : ℕ) : Type 0 where
  pub below : before < last_count
  pub same : now ≡ before

-- a call hasn't failed where the count of faults is constant
abbrev pub ConstantMeansOk : Type 0
ConstantMeansOk = (before now : ℕ) (result : Result ℕ Failed) → HasCause before now result → IsConstant before now → IsOk result

-- a write that takes nothing was given nothing where the count of stalls is constant
abbrev pub ConstantMeansTaken : Type 0
ConstantMeansTaken = (before now : ℕ) (result : Result ℕ Failed) (bytes : List ℕ) → CountsStalls before now result bytes → IsConstant before now → result ≡ Ok 0 → bytes ≡ []
