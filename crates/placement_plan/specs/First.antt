-- The first placement.
use Rattle.std.specs.Prelude.{◌≡◌, ◌≢◌, ◌<◌, ℕ, List, [], ◌∷◌, ◌++◌, map, length, take, Some, None, true, false, slice_get, ⊤}
use Rattle.placement_core.specs.m3_model.Ascends.{Ascends}
use Rattle.placement_core.specs.m3_model.Members.{IsIn}
use Rattle.placement_core.specs.m3_model.declared.placement.ShardState.TheVariants.{Available}
use Rattle.placement_core.specs.m3_model.declared.placement.Assignment.{Assignment}
use Rattle.placement_core.specs.m3_model.declared.placement.Instance.{Instance}
use Rattle.placement_core.specs.m3_model.declared.placement.Placement.{Placement}
use Rattle.placement_core.specs.Lawful.{IsApart}
use Rattle.placement_core.specs.Shards.{Shard}
use Rattle.placement_plan.specs.Nodes.{load}
use Rattle.isolation_groups.specs.Groups.{group_of}
use Rattle.placement_plan.specs.Choices.{IsLeastLoaded}
use Rattle.placement_plan.specs.declared.plan_err.PlaceErr.{PlaceErr}
use Rattle.placement_plan.specs.declared.plan_err.PlaceErr.TheVariants.{Group, Memory}

-- the nodes of `init`, in their order
abbrev pub first_instances : List (List ℕ × List ℕ) → List Instance
first_instances nodes = map (λ node. record { name = node.0; group = node.1; listed = true; drained = false }) nodes

-- the node may have the shard: there is a node, and its group doesn't have the shard yet
pub record MayHold (instances : List Instance) (shard : Shard) (node : ℕ) : Type 0 where
  pub within : node < length instances
  pub free : (a : Assignment) → IsIn shard a → group_of instances a.node ≢ group_of instances node

-- a replica of the first placement
abbrev pub first_at : ℕ → Assignment
first_at node = record { node = node; tenure = 1; state = Available; source = None }

-- the replica is on the least loaded node that may have the shard
abbrev pub IsPlaced : List Instance → (ℕ → ℕ) → Shard → Assignment → Type 0
IsPlaced instances load_at shard a = (node : ℕ) × IsLeastLoaded instances load_at (MayHold instances shard) node × (a ≡ first_at node)

-- `rf` replicas, placed one after the other; the loads are those of the lower shards and of the replicas before
pub record IsPlacedShard (rf : ℕ) (instances : List Instance) (lower : List Shard) (shard : Shard) : Type 0 where
  pub all : length shard ≡ rf
  pub each : (r : ℕ) (a : Assignment) → slice_get shard r ≡ Some a → IsPlaced instances (λ n. load n (lower ++ take r shard ∷ [])) (take r shard) a

-- the placement that a cluster begins with
pub record IsInitial (rf shards : ℕ) (nodes : List (List ℕ × List ℕ)) (place : Placement) : Type 0 where
  pub version : place.version ≡ 1
  pub rf_is : place.rf ≡ rf
  pub instances : place.instances ≡ first_instances nodes
  pub count : length place.shards ≡ shards
  pub each : (s : ℕ) (shard : Shard) → slice_get place.shards s ≡ Some shard → IsPlacedShard rf place.instances (take s place.shards) shard

-- so many of the nodes are in different groups
pub record HasGroups (many : ℕ) (instances : List Instance) : Type 0 where
  pub nodes : List ℕ
  pub all : length nodes ≡ many
  pub within : (n : ℕ) → IsIn nodes n → n < length instances
  pub differ : Ascends (λ a b. group_of instances a ≢ group_of instances b) nodes

-- there are fewer groups than replicas: no shard can be placed, from the first one on
abbrev pub LacksGroups : ℕ → List Instance → PlaceErr → Type 0
LacksGroups rf instances (Group shard) = (shard ≡ 0) × ¬ HasGroups rf instances
LacksGroups rf instances Memory = ⊤
LacksGroups rf instances _ = ⊥

abbrev pub RefusesInitial : ℕ → List (List ℕ × List ℕ) → PlaceErr → Type 0
RefusesInitial rf nodes = LacksGroups rf (first_instances nodes)

-- a shard that `init` made: `rf` nodes in different groups, available from the first placement on
pub record IsFirstShard (rf : ℕ) (instances : List Instance) (assignments : List Assignment) : Type 0 where
  pub all : length assignments ≡ rf
  pub available : (a : Assignment) → IsIn assignments a → (a.state ≡ Available) × (a.tenure ≡ 1) × (a.source ≡ None)
  pub to_nodes : (a : Assignment) → IsIn assignments a → a.node < length instances
  pub apart : Ascends (IsApart instances) assignments

-- the placement that `init` made
pub record IsFirstPlacement (rf shards : ℕ) (nodes : List (List ℕ × List ℕ)) (place : Placement) : Type 0 where
  pub version_is : place.version ≡ 1
  pub rf_is : place.rf ≡ rf
  pub instances_are : place.instances ≡ first_instances nodes
  pub shards_are : length place.shards ≡ shards
  pub each_shard : (assignments : List Assignment) → IsIn place.shards assignments → IsFirstShard rf place.instances assignments
