-- The slots of a placement's replicas, each with the tenure that the placement gives it.
use Rattle.std.specs.Prelude.{◌≢◌, ℕ, suc, List, [], ◌∷◌, ◌++◌, map}
use Rattle.m3_model.specs.Ascends.{Ascends}
use Rattle.m3_model.specs.declared.placement.Assignment.{Assignment}
use Rattle.m3_model.specs.declared.placement.Placement.{Placement}
use Rattle.placement_core.specs.Shards.{Shard, nodes_of}
use Rattle.cluster_members.specs.replica_exchange.declared.slot.Slot.{Slot}
use Rattle.cluster_members.specs.session_net.Runs.{slot_at}
use Rattle.first_cluster.specs.declared.start.Start.{Start}

-- the slots of these shards, of which the first has this number
abbrev pub slots_from : ℕ → List Shard → List Slot
slots_from k [] = []
slots_from k (shard ∷ shards) = map (λ node. slot_at node k) (nodes_of shard) ++ slots_from (suc k) shards

-- the slots of a placement's replicas, by shard
abbrev pub slots_of : Placement → List Slot
slots_of place = slots_from 0 place.shards

-- each slot stands there once
abbrev pub AreApart : List Slot → Type 0
AreApart slots = Ascends (λ a b. a ≢ b) slots

-- the start of a replica of the shard of this number
abbrev pub start_at : ℕ → Assignment → Start
start_at k a = record { slot = slot_at a.node k; tenure = a.tenure }

-- the starts of these shards' replicas, of which the first shard has this number
abbrev pub starts_from : ℕ → List Shard → List Start
starts_from k [] = []
starts_from k (shard ∷ shards) = map (start_at k) shard ++ starts_from (suc k) shards

-- the starts of a placement's replicas, by shard
abbrev pub starts_of : Placement → List Start
starts_of place = starts_from 0 place.shards

-- the slots of starts
abbrev pub slots_in : List Start → List Slot
slots_in starts = map (λ start. start.slot) starts
