-- What a client's call asks for, and of which shards.
use Rattle.std.specs.Prelude.{◌≡◌, ℕ, ◌<◌, List, length, Option, Some, None}
use Rattle.m3_model.specs.Hash.{shard_of}
use Rattle.m3_model.specs.Levels.{needed_write, needed_read}
use Rattle.m3_model.specs.declared.act.Act.{Act}
use Rattle.m3_model.specs.declared.act.Act.TheVariants as act
use Rattle.m3_model.specs.declared.placement.Placement.{Placement}
use Rattle.m3_model.specs.declared.rules.MetaState.{MetaState}
use Rattle.transcripts.specs.Placements.{seed_at}
use Rattle.transcripts.specs.Record.{TurnPosition}

-- What a write, a fetch or a match asks for beside its points.
pub record Call : Type 0 where
  pub id : Option (List ℕ)  -- where it is of one identifier
  pub version : Option ℕ
  pub needed : ℕ → ℕ  -- of this many replicas

abbrev pub call_of : Act → Option Call
call_of (act.Write ns id t v level version) = Some (record { id = Some id; version = version; needed = needed_write level })
call_of (act.Fetch ns id from to level version) = Some (record { id = Some id; version = version; needed = needed_read level })
call_of (act.Match ns wanted from to level version) = Some (record { id = None; version = version; needed = needed_read level })
call_of _ = None

-- a shard that a call asks: the one of its identifier, else any
abbrev pub IsAskedOf : Option (List ℕ) → ℕ → ℕ → ℕ → Type 0
IsAskedOf (Some id) seed shards shard = shard ≡ shard_of id seed shards
IsAskedOf None seed shards shard = shard < shards

-- a shard that a call at this position asks where it uses this placement
abbrev pub AsksShard : Option MetaState → TurnPosition → Placement → Option (List ℕ) → ℕ → Type 0
AsksShard start p place id shard = IsAskedOf id (seed_at start p) (length place.shards) shard
