-- How many points are held.
use Rattle.std.specs.Prelude.{◌≡◌, ℕ, ℤ, ◌<◌, ◌≤◌, Some, None, Bool, true, not, is_some, IfSome}
use Rattle.std.specs.FinMap as finite
use Rattle.m3_model.specs.declared.limits.TheConstants.{MOST_REPLICA_POINTS}
use Rattle.m3_model.specs.declared.point.Key.{Key}
use Rattle.block_buffer.specs.Held.{InMemory}

-- Just so many points are held, and no more than a replica may hold. Where there is room for one whose key has none yet, one more may be held.
pub record IsCounted (count : ℕ) (adds : Bool) (held : InMemory) : Type 0 where
  pub counted : count ≡ finite.len held.points
  pub limit : count ≤ MOST_REPLICA_POINTS
  pub fits : IfSome held.room (λ key. (adds ≡ not (is_some (finite.get held.points key))) × (adds ≡ true → count < MOST_REPLICA_POINTS))

-- a point at a key with P left, and nothing else changed
pub record TakesOne (old new : InMemory) (P : Key → Type 0) : Type 0 where
  pub key : Key
  pub value : ℤ
  pub holds : P key
  pub stands : finite.get old.points key ≡ Some value
  pub left : new ≡ record { points = finite.remove old.points key; room = None }
