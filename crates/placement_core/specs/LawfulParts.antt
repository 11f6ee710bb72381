-- The rules of a lawful placement, taken apart as the test tries them.
use Rattle.std.specs.Prelude.{◌≡◌, ◌≢◌, ◌⊎◌, ℕ, suc, ◌<◌, ◌≤◌, List, length, Some, None, true, IsTrue, slice_get}
use Rattle.std.specs.List.{All, Any}
use Rattle.m3_model.specs.Ascends.{Ascends}
use Rattle.m3_model.specs.Names.{is_name}
use Rattle.placement_core.specs.Lawful.{IsApart, IsServing, IsJoiningFrom, IsMoving, IsShard, IsSpread}
use Rattle.m3_model.specs.declared.placement.Assignment.{Assignment}
use Rattle.m3_model.specs.declared.placement.Instance.{Instance}
use Rattle.m3_model.specs.declared.placement.Placement.{Placement}
use Rattle.m3_model.specs.declared.placement.ShardState.TheVariants.{Initializing, Leaving}
use Rattle.m3_model.specs.declared.limits.TheConstants.{MOST_REPLICAS, MOST_SHARDS, MOST_NODES, NUMBER_END}
use Rattle.placement_core.specs.Shards.{Shard}

-- the node and its group have names
abbrev pub HasBothNames : Instance → Type 0
HasBothNames node = IsTrue (is_name node.name) × IsTrue (is_name node.group)

-- as many replicas, shards and nodes as there may be, and a version that fits
abbrev pub IsSmall : Placement → Type 0
IsSmall place = (1 ≤ place.rf) × (place.rf ≤ MOST_REPLICAS) × (1 ≤ length place.shards) × (length place.shards ≤ MOST_SHARDS) × (length place.instances ≤ MOST_NODES) × (place.version < NUMBER_END)

-- nodes with names of their own
abbrev pub AreNamed : List Instance → Type 0
AreNamed instances = All HasBothNames instances × Ascends (λ a b. a.name ≢ b.name) instances

-- one replica takes over the other's, and all others serve
abbrev pub MovesTo : Shard → Assignment → Assignment → Type 0
MovesTo shard leaving joining = IsJoiningFrom leaving.node joining × All (λ a. a.node ≢ leaving.node → a.node ≢ joining.node → IsServing a) shard

-- the replica leaves, and another takes it over
abbrev pub Moves : Shard → Assignment → Type 0
Moves shard leaving = (leaving.state ≡ Leaving) × (leaving.source ≡ None) × Any (MovesTo shard leaving) shard

-- the node of the assignment is listed
unfoldable pub IsListed : List Instance → Assignment → Type 0
IsListed instances a = (node : Instance) × (slice_get instances a.node ≡ Some node) × (node.listed ≡ true)

-- two replicas that both hold the shard are apart
unfoldable pub ApartBefore : List Instance → Assignment → Assignment → Type 0
ApartBefore instances a b = a.state ≢ Initializing → b.state ≢ Initializing → IsApart instances a b

-- two replicas that both stay are apart
unfoldable pub ApartAfter : List Instance → Assignment → Assignment → Type 0
ApartAfter instances a b = a.state ≢ Leaving → b.state ≢ Leaving → IsApart instances a b

-- `rf` replicas that serve, or one more where one of them moves
abbrev pub HasReplicas : ℕ → Shard → Type 0
HasReplicas rf shard = ((length shard ≡ rf) × All IsServing shard) ⊎ ((length shard ≡ suc rf) × IsMoving shard)

-- different nodes, from versions that stood
abbrev pub HasNodes : ℕ → Shard → Type 0
HasNodes version shard = Ascends (λ a b. a.node ≢ b.node) shard × All (λ a. a.tenure ≤ version) shard

-- a shard that is in order
abbrev pub IsGood : Placement → Shard → Type 0
IsGood place shard = IsShard place.rf place.version shard × IsSpread place.instances shard
