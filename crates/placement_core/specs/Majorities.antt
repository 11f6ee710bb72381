-- Majorities of the replicas of a shard.
use Rattle.std.specs.Prelude.{◌≢◌, ◌≤◌, ℕ, List, length}
use Rattle.m3_model.specs.Ascends.{Ascends}
use Rattle.m3_model.specs.Levels.{majority}
use Rattle.m3_model.specs.Members.{IsIn}

-- different members of the base, more than half of rf
pub record IsMajority (rf : ℕ) (base members : List ℕ) : Type 0 where
  pub distinct : Ascends ◌≢◌ members
  pub within : (n : ℕ) → IsIn members n → IsIn base n
  pub enough : majority rf ≤ length members
