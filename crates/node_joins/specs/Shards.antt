-- What came of the replicas of a node, shard by shard.
use Rattle.std.specs.Prelude.{◌≡◌, ◌⊎◌, ◌<◌, ℕ, zero, suc, List, [], ◌∷◌, ◌++◌, map, length, Option, Some, None, Result, Ok, Err, nat_eq, if◌then◌else◌}
use Rattle.std.specs.List.{cons_option, filter_map, flat_map}
use Rattle.std.specs.Option.{option_map}
use Rattle.m3_model.specs.Members.{IsIn}
use Rattle.m3_model.specs.declared.placement.Assignment.{Assignment}
use Rattle.m3_model.specs.declared.placement.Placement.{Placement}
use Rattle.placement_core.specs.Shards.{Shard, shard_at}
use Rattle.transcripts.specs.Waiting.{is_covering}
use Rattle.session_net.specs.m3_outside.DiskState.{DiskState}
use Rattle.session_net.specs.replica_calls.Calls.{Tracked}
use Rattle.session_net.specs.cluster_core.declared.event.Event.{Event}
use Rattle.session_net.specs.Runs.{Ran}
use Rattle.peer_streams.specs.Joins.{IsOpened, Opened}
use Rattle.node_joins.specs.Joined.{JoinedOf}
use Rattle.node_joins.specs.Opens.{IsOpenTried}
use Rattle.node_joins.specs.declared.open_err.OpenErr.{OpenErr}
use Rattle.node_joins.specs.declared.open_err.OpenErr.TheVariants as open_err

-- ---- the shards

-- the node's assignment, if it has the shard
abbrev pub assignment_in : ℕ → Shard → Option Assignment
assignment_in y [] = None
assignment_in y (a ∷ shard) = if nat_eq a.node y then Some a else assignment_in y shard

-- the assignment, if the shard is asked for and the node has it
abbrev pub asked_at : ℕ → Option ℕ → Placement → ℕ → Option Assignment
asked_at y only place s = if is_covering s only then assignment_in y (shard_at place s) else None

abbrev pub shard_if : ℕ → Option Assignment → List ℕ
shard_if s None = []
shard_if s (Some a) = s ∷ []

-- those of the shards below this number that are asked for and that the node has, by number
abbrev pub covered_below : ℕ → Option ℕ → Placement → ℕ → List ℕ
covered_below y only place zero = []
covered_below y only place (suc s) = covered_below y only place s ++ shard_if s (asked_at y only place s)

-- ---- one

-- the node's replica of the shard was tried, if it is asked for and the node has it; else nothing changed
abbrev pub IsTriedAt : {D : Type 0} → (D → DiskState) → ℕ → Placement → ℕ → Option Assignment → Tracked D → Tracked D → Result (Option JoinedOf) OpenErr → Type 0
IsTriedAt state y place s None old new result = (result ≡ Ok None) × (new ≡ old)
IsTriedAt state y place s (Some own) old new result = IsIn (shard_at place s) own × (own.node ≡ y) × IsOpenTried state place s own old new result

abbrev pub IsShardTried : {D : Type 0} → (D → DiskState) → ℕ → Option ℕ → Placement → ℕ → Tracked D → Tracked D → Result (Option JoinedOf) OpenErr → Type 0
IsShardTried state y only place s old new result = IsTriedAt state y place s (asked_at y only place s) old new result

-- ---- all

-- the shard that was joined, if it was
abbrev pub joined_shard : Opened → Option JoinedOf
joined_shard o = option_map (λ j. record { shard = o.shard; source = j.source; peers = j.peers }) o.joined

-- what these added
abbrev pub opened_events : List Opened → List Event
opened_events opened = flat_map (λ o. o.added) opened

-- as a list
abbrev pub newly : Option JoinedOf → List JoinedOf
newly o = cons_option o []

-- Those of the shards below this number were opened, one after the other, and these of them were joined.
pub record AreOpenedBelow {D : Type 0} (state : D → DiskState) (y : ℕ) (only : Option ℕ) (place : Placement) (s : ℕ) (joined : List JoinedOf) (old new : Tracked D) : Type 0 where
  pub opened : List Opened
  pub shards : map (λ o. o.shard) opened ≡ covered_below y only place s
  pub each : (o : Opened) → IsIn opened o → IsOpened place y o
  pub joined_are : joined ≡ filter_map joined_shard opened
  pub ran : Ran state old (opened_events opened) new

-- Those below this shard were, and at this one it ended.
pub record IsEndedAt {D : Type 0} (state : D → DiskState) (y : ℕ) (only : Option ℕ) (place : Placement) (why : OpenErr) (old new : Tracked D) : Type 0 where
  pub shard : ℕ
  pub below : shard < length place.shards
  pub joined : List JoinedOf
  pub mid : Tracked D
  pub before : AreOpenedBelow state y only place shard joined old mid
  pub own : Assignment
  pub asked : asked_at y only place shard ≡ Some own
  pub among : IsIn (shard_at place shard) own
  pub of_node : own.node ≡ y
  pub tried : IsOpenTried state place shard own mid new (Err why)

-- all were opened; or it ended at one; or memory was wanted before any
abbrev pub AreTried : {D : Type 0} → (D → DiskState) → ℕ → Option ℕ → Placement → Tracked D → Tracked D → Result (List JoinedOf) OpenErr → Type 0
AreTried state y only place old new (Ok joined) = AreOpenedBelow state y only place (length place.shards) joined old new
AreTried state y only place old new (Err why) = ((why ≡ open_err.Memory) × (new ≡ old)) ⊎ IsEndedAt state y only place why old new
