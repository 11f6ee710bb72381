-- The words for how a replica and its shard stand.
use Rattle.std.specs.Prelude.{ℕ, List, codes}
use Rattle.m3_model.specs.declared.placement.ShardState.{ShardState}
use Rattle.m3_model.specs.declared.placement.ShardState.TheVariants as state
use Rattle.m3_model.specs.declared.replica.Standing.{Standing}
use Rattle.m3_model.specs.declared.replica.Standing.TheVariants as standing

-- the word for a state
abbrev pub state_text : ShardState → List ℕ
state_text state.Initializing = codes "initializing"
state_text state.Available = codes "available"
state_text state.Leaving = codes "leaving"

-- the word for how a replica stands
abbrev pub standing_text : Standing → List ℕ
standing_text standing.Down = codes "down"
standing_text standing.Boot = codes "boot"
standing_text standing.Open = codes "open"
