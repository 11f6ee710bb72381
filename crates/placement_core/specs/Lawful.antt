-- What a placement is; M3DB's page "Placement".
use Rattle.std.specs.Prelude.{◌≡◌, ◌≢◌, ◌⊎◌, ℕ, suc, ◌<◌, ◌≤◌, List, filter, length, Some, None, true, IsTrue, slice_get}
use Rattle.m3_model.specs.Ascends.{Ascends}
use Rattle.m3_model.specs.Members.{IsIn}
use Rattle.m3_model.specs.Names.{is_name}
use Rattle.m3_model.specs.declared.placement.ShardState.TheVariants.{Initializing, Available, Leaving}
use Rattle.m3_model.specs.declared.placement.Assignment.{Assignment}
use Rattle.m3_model.specs.declared.placement.Instance.{Instance}
use Rattle.m3_model.specs.declared.placement.Placement.{Placement}
use Rattle.m3_model.specs.declared.limits.TheConstants.{MOST_REPLICAS, MOST_SHARDS, MOST_NODES, NUMBER_END}
use Rattle.placement_core.specs.Shards.{Shard, is_holder, is_staying}

-- the two assignments are to different nodes in different isolation groups
pub record IsApart (instances : List Instance) (a b : Assignment) : Type 0 where
  pub one : Instance
  pub other : Instance
  pub of_one : slice_get instances a.node ≡ Some one
  pub of_other : slice_get instances b.node ≡ Some other
  pub names : one.name ≢ other.name
  pub groups : one.group ≢ other.group

-- a replica that serves and isn't moving
abbrev pub IsServing : Assignment → Type 0
IsServing a = (a.state ≡ Available) × (a.source ≡ None)

-- a replica that takes over the node's
abbrev pub IsJoiningFrom : ℕ → Assignment → Type 0
IsJoiningFrom from a = (a.state ≡ Initializing) × (a.source ≡ Some from)

-- all replicas of the shard serve
abbrev pub IsSteady : Shard → Type 0
IsSteady shard = (a : Assignment) → IsIn shard a → IsServing a

-- one replica leaves, one that takes it over joins, and all others serve
pub record IsMoving (shard : Shard) : Type 0 where
  pub leaving : Assignment
  pub stands : IsIn shard leaving
  pub is_leaving : (leaving.state ≡ Leaving) × (leaving.source ≡ None)
  pub joining : Assignment
  pub joins : IsIn shard joining
  pub is_joining : IsJoiningFrom leaving.node joining
  pub others : (a : Assignment) → IsIn shard a → a.node ≢ leaving.node → a.node ≢ joining.node → IsServing a

-- `rf` replicas serve, or one of them moves to a further node; each node has the shard once, from a version that stood
pub record IsShard (rf version : ℕ) (shard : Shard) : Type 0 where
  pub distinct : Ascends (λ a b. a.node ≢ b.node) shard
  pub tenures : (a : Assignment) → IsIn shard a → a.tenure ≤ version
  pub replicas : (IsSteady shard × (length shard ≡ rf)) ⊎ (IsMoving shard × (length shard ≡ suc rf))

-- its nodes are listed, and their isolation groups differ before and after a move
pub record IsSpread (instances : List Instance) (shard : Shard) : Type 0 where
  pub listed : (a : Assignment) → IsIn shard a → (node : Instance) × (slice_get instances a.node ≡ Some node) × (node.listed ≡ true)
  pub before : Ascends (IsApart instances) (filter is_holder shard)
  pub after : Ascends (IsApart instances) (filter is_staying shard)

-- 1 to 5 replicas of 1 to 64 shards on at most 16 nodes with names of their own, at a version below 2^62
pub record IsWithinLimits (place : Placement) : Type 0 where
  pub some_replicas : 1 ≤ place.rf
  pub few_replicas : place.rf ≤ MOST_REPLICAS
  pub some_shards : 1 ≤ length place.shards
  pub few_shards : length place.shards ≤ MOST_SHARDS
  pub few_nodes : length place.instances ≤ MOST_NODES
  pub named : (node : Instance) → IsIn place.instances node → IsTrue (is_name node.name) × IsTrue (is_name node.group)
  pub distinct : Ascends (λ a b. a.name ≢ b.name) place.instances
  pub version_fits : place.version < NUMBER_END

-- a placement that a cluster may have
pub record IsLawful (place : Placement) : Type 0 where
  pub limits : IsWithinLimits place
  pub shards : (shard : Shard) → IsIn place.shards shard → IsShard place.rf place.version shard
  pub spread : (shard : Shard) → IsIn place.shards shard → IsSpread place.instances shard
