-- The replicas of a shard: who counts, and who holds its points; M3DB's page "Placement".
use Rattle.std.specs.Prelude.{ℕ, List, [], Bool, true, false, map, filter, if◌then◌else◌, slice_index_or}
use Rattle.std.specs.List.{list_all}
use Rattle.m3_model.specs.declared.placement.ShardState.{ShardState}
use Rattle.m3_model.specs.declared.placement.ShardState.TheVariants.{Initializing, Available, Leaving}
use Rattle.m3_model.specs.declared.placement.Assignment.{Assignment}
use Rattle.m3_model.specs.declared.placement.Placement.{Placement}

-- the assignments of one shard
abbrev pub Shard : Type 0
Shard = List Assignment

-- the shard of this number
abbrev pub shard_at : Placement → ℕ → Shard
shard_at place shard = slice_index_or place.shards shard []

-- a replica in this state counts for reads and writes
abbrev pub counts : ShardState → Bool
counts Initializing = false
counts Available = true
counts Leaving = false

-- a replica in this state holds the points of the shard
abbrev pub holds : ShardState → Bool
holds Initializing = false
holds Available = true
holds Leaving = true

-- a replica in this state stays when the move of the shard ends
abbrev pub stays : ShardState → Bool
stays Initializing = true
stays Available = true
stays Leaving = false

abbrev pub is_available : Assignment → Bool
is_available a = counts a.state

abbrev pub is_holder : Assignment → Bool
is_holder a = holds a.state

abbrev pub is_staying : Assignment → Bool
is_staying a = stays a.state

abbrev pub nodes_of : Shard → List ℕ
nodes_of shard = map (λ a. a.node) shard

-- the nodes whose answers count: the Available ones
abbrev pub counted : Shard → List ℕ
counted shard = nodes_of (filter is_available shard)

-- the nodes that hold the shard's points: the Available and the Leaving ones
abbrev pub holders : Shard → List ℕ
holders shard = nodes_of (filter is_holder shard)

-- no move of the shard goes on
abbrev pub is_steady : Shard → Bool
is_steady shard = list_all is_available shard

-- whom a joining node asks: the holders of a moving shard
abbrev pub former : Shard → List ℕ
former shard = if is_steady shard then [] else holders shard
