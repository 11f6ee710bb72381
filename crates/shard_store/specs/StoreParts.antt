-- What contracts see of a store's parts.
use Rattle.std.specs.Prelude.{⊤, ℕ, Option, Some, None, is_some}
use Rattle.std.specs.FinMap as finite
use Rattle.m3_model.specs.Contents.{Contents}
use Rattle.m3_outside.specs.DiskState.{DiskState, Told}
use Rattle.store_log.specs.snapshot_steps.Counts.{AreCounted}
use Rattle.store_log.specs.listed_volumes.Listed.{known_in}
use Rattle.store_log.specs.listed_volumes.Cached.{AreOfVolumes, AreRight}
use Rattle.shard_store.specs.Stores.{StoreState, IsKeptOn, joined_with}
use Rattle.shard_store.specs.declared.opened.Opened.{Opened}

abbrev pub buffered_in : Option Opened → Contents
buffered_in None = finite.empty
buffered_in (Some opened) = opened.held.points

-- the points in memory, joined with those of the volumes
abbrev pub content_of_opened : Opened → Contents
content_of_opened opened = joined_with opened.held.points (known_in opened.volumes.items)

abbrev pub content_in : Option Opened → Contents
content_in None = finite.empty
content_in (Some opened) = content_of_opened opened

abbrev pub tenure_in : Option Opened → ℕ
tenure_in None = 0
tenure_in (Some opened) = opened.tenure

abbrev pub fence_in : Option Opened → ℕ
fence_in None = 0
fence_in (Some opened) = opened.fence

abbrev pub state_of : {D : Type 0} → D → Option Opened → StoreState D
state_of disk opened = record { disk = disk; open_ = is_some opened; buffered = buffered_in opened; content = content_in opened; tenure = tenure_in opened; fence = fence_in opened }

-- of an open store
abbrev pub IsOpenOn : Opened → DiskState → Type 0
IsOpenOn opened d = IsKeptOn opened.log opened.held (known_in opened.volumes.items) opened.tenure opened.fence d

-- where the disk tells, it counts the log's segments right, and knows the newest snapshot
abbrev pub IsCountedIn : Opened → DiskState → Type 0
IsCountedIn opened d = Told d (AreCounted opened.log opened.counts.missing opened.counts.snapshot)

-- each block whose rows are kept is one of its volumes; where the disk tells, they are the volume's rows
abbrev pub IsCachedIn : Opened → DiskState → Type 0
IsCachedIn opened d = AreOfVolumes (known_in opened.volumes.items) opened.cache × Told d (λ _. AreRight (known_in opened.volumes.items) opened.cache)

abbrev pub IsKept : Option Opened → DiskState → Type 0
IsKept None d = ⊤
IsKept (Some opened) d = IsOpenOn opened d × IsCountedIn opened d × IsCachedIn opened d
