-- Which slots a placement gives their first replica, and which lose theirs.
use Rattle.std.specs.Prelude.{◌<◌, List, Some, not, filter, length, is_none}
use Rattle.std.specs.FinMap.{get}
use Rattle.m3_model.specs.Members.{IsIn}
use Rattle.m3_model.specs.declared.placement.Placement.{Placement}
use Rattle.node_calls.specs.replica_calls.Slots.{MemberMap}
use Rattle.node_calls.specs.replica_exchange.declared.slot.Slot.{Slot}
use Rattle.node_calls.specs.transcripts.Placements.{has_replica}
use Rattle.first_cluster.specs.Slots.{AreApart, slots_of}

-- the slots of the placement that have no replica yet, by shard
abbrev pub new_slots : {D : Type 0} → MemberMap D → Placement → List Slot
new_slots members next = filter (λ s. is_none (get members s)) (slots_of next)

-- the slots of the placement of which the next one has no replica any more
abbrev pub left_slots : Placement → Placement → List Slot
left_slots place next = filter (λ s. not (has_replica (Some next) s.shard s.node)) (slots_of place)

-- each slot stands there once, and is one of the placement's nodes and shards
pub record AreSlotsIn (place : Placement) (slots : List Slot) : Type 0 where
  pub apart : AreApart slots
  pub nodes : (s : Slot) → IsIn slots s → s.node < length place.instances
  pub shards : (s : Slot) → IsIn slots s → s.shard < length place.shards
