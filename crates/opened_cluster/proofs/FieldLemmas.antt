-- What the fields of a cluster that goes on are bounded by.
use Rattle.std.proofs.Common.{◌≡◌, ◌≤◌, ◌<◌, ◌+◌, ◌*◌, ◌^◌, ℕ, List, [], ◌∷◌, length, refl, sym, ap, subst, ◌∙◌, arith}
use Rattle.std.specs.List.{All}
use Rattle.std.proofs.lemmas.List.Elements.{All-weaker}
use Rattle.m3_model.specs.Members.{IsIn}
use Rattle.m3_model.specs.declared.limits.TheConstants.{MOST_NODES, MOST_SHARDS}
use Rattle.m3_model.specs.declared.placement.Placement.{Placement}
use Rattle.m3_model.specs.declared.rules.MetaState.{MetaState}
use Rattle.m3_model.specs.declared.rules.Space.{Space}
use Rattle.placement_core.specs.Lawful.{IsLawful}
use Rattle.placement_core.proofs.ListLemmas.{at_within}
use Rattle.line_tracks.specs.replica_exchange.declared.slot.Slot.{Slot}
use Rattle.line_tracks.specs.first_cluster.Slots.{slots_of}
use Rattle.line_tracks.proofs.first_cluster_proofs.PlacedSlots.{shard_low}
use Rattle.line_tracks.proofs.first_cluster_proofs.SlotLists.{slot_instance, slots_apart}
use Rattle.cluster_placements.specs.Slots.{AreSlotsIn}
use Rattle.cluster_placements.proofs.FewLemmas.{few_slots}
use Rattle.meta_bytes.specs.States.{IsMetaState, IsSpaceOf}

-- the node of a slot is one of the placement's
pub slot_low : (place : Placement) → IsLawful place → (s : Slot) → IsIn (slots_of place) s → s.node < length place.instances
slot_low place lawful s i = let one = slot_instance place lawful s i in at_within place.instances s.node one.0 one.1

pub slots_in : (place : Placement) → IsLawful place → AreSlotsIn place (slots_of place)
slots_in place lawful = record { apart = slots_apart place lawful; nodes = slot_low place lawful; shards = shard_low place }

-- a lawful placement has few slots
pub slots_few : (place : Placement) (slots : List Slot) → IsLawful place → slots ≡ slots_of place → length slots ≤ MOST_NODES * MOST_SHARDS
slots_few place slots lawful is =
    let nodes = lawful.limits.few_nodes in
    let shards = lawful.limits.few_shards in
    let few = few_slots (slots_of place) (λ s i. let low = slot_low place lawful s i in omega (arith, low, nodes)) (λ s i. let low = shard_low place s i in omega (arith, low, shards)) (slots_apart place lawful) in
    let same = ap length is in
    omega (arith, few, same)

-- each namespace has a block of some size
pub sized : (state : MetaState) → IsMetaState state → All (λ (space : Space). 0 < space.block) state.rules.spaces
sized state lawful = All-weaker IsSpaceOf (λ (space : Space). 0 < space.block) (λ space of. let some = of.some_block in omega (arith, some)) state.rules.spaces lawful.spaces.each

pub few_shards : (place : Placement) → IsLawful place → length place.shards ≤ 2 ^ 32
few_shards place lawful = let few = lawful.limits.few_shards in omega (arith, few)
