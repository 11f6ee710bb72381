-- What a bootstrap is to mark, and what the marking leaves.
use Rattle.std.specs.Prelude.{◌≡◌, ◌≢◌, ℕ, ◌<◌, ◌+◌, ◌*◌, List, [], ◌∷◌, ◌++◌, map, length, None, vec_len}
use Rattle.std.specs.FinMap as finite
use Rattle.std.specs.List.{flat_map}
use Rattle.std.specs.Vec.{vec_capacity}
use Rattle.m3_model.specs.Members.{IsIn}
use Rattle.m3_model.specs.declared.answer.Answer.{Answer}
use Rattle.m3_model.specs.declared.answer.Answer.TheVariants as answer
use Rattle.m3_model.specs.declared.limits.TheConstants.{MOST_VERSIONS}
use Rattle.m3_outside.specs.DiskState.{DiskState}
use Rattle.m3_outside.specs.declared.disk.Disk.{Ghosts}
use Rattle.placement_core.specs.Lawful.{IsLawful}
use Rattle.placement_core.specs.Shards.{nodes_of, shard_at}
use Rattle.placement_core.specs.Steps.{IsStep}
use Rattle.cluster_core.specs.Legal.{IsNextPlace}
use Rattle.cluster_core.specs.declared.event.Asked.TheVariants as asked
use Rattle.cluster_core.specs.declared.event.Event.TheVariants as event
use Rattle.node_calls.specs.cluster_members.Kept.{PastServes}
use Rattle.node_calls.specs.cluster_members.declared.members.Members.{Members}
use Rattle.node_calls.specs.replica_exchange.MachineCalls.{HasRoom}
use Rattle.node_calls.specs.replica_exchange.declared.slot.Slot.{Slot}
use Rattle.node_calls.specs.session_net.Ready.{IsReady}
use Rattle.node_calls.specs.session_net.Runs.{Ran, slot_at}
use Rattle.node_calls.specs.Nodes.{KeepsButBoots}
use Rattle.cluster_placements.specs.Steps.{end_at, kept_in, place_ending}
use Rattle.node_joins.specs.Joined.{JoinedOf}
use Rattle.cluster_joins.specs.declared.marking.Marked.{Marked}
use Rattle.cluster_joins.specs.declared.marking.Marking.{Marking}

-- ---- what is marked

-- each shard that was joined, with the node
abbrev pub done_of : ℕ → List JoinedOf → List (ℕ × ℕ)
done_of y joined = map (λ j. (j.shard, y)) joined

-- the slot from which the node takes over
abbrev pub source_slot : JoinedOf → Slot
source_slot j = slot_at j.source j.shard

-- the shard, with whom the node merged
abbrev pub printed_pair : JoinedOf → ℕ × List ℕ
printed_pair j = (j.shard, j.peers)

-- it is what is to be marked where the node joined these shards
pub record IsMarkingOf (y : ℕ) (joined : List JoinedOf) (m : Marking) : Type 0 where
  pub printed_is : (m.marked).printed ≡ m.next
  pub done_is : m.done ≡ done_of y joined
  pub sources_are : (m.marked).sources.items ≡ map source_slot joined
  pub joined_are : (m.marked).joined ≡ map printed_pair joined

-- ---- when it may be marked

-- Calls may be made, and the tenures of the sources may end, each of which has a replica.
pub record MayEnd {D : Type 0} {G : Ghosts D} (m : Members D G) (marked : Marked) : Type 0 where
  pub ready : IsReady m.net.state m.net.replicas m.net.bag
  pub serves : PastServes m
  pub there : (s : Slot) → IsIn marked.sources.items s → finite.get m.net.replicas.members s ≢ None
  pub room : HasRoom (2 * length marked.sources.items) m.net.replicas.events

-- The placement may come next, behind its Ask, and each of its slots and each source has a replica; and there is room for the one that stands among those before, and
-- for the events.
pub record MayBeMarked {D : Type 0} {G : Ghosts D} (m : Members D G) (marking : Marking) : Type 0 where
  pub ready : IsReady m.net.state m.net.replicas m.net.bag
  pub serves : PastServes m
  pub few_past : kept_in m < MOST_VERSIONS
  pub past_room : vec_len m.past < vec_capacity m.past
  pub lawful : IsLawful marking.next
  pub step : IsStep m.net.state.place marking.next marking.done
  pub nodes : length marking.next.instances ≡ length m.net.state.place.instances
  pub comes : IsNextPlace (m.net.replicas.events ++ event.Ask (asked.Place marking.next marking.done) ∷ []) marking.next marking.done
  pub there : (n s : ℕ) → IsIn (nodes_of (shard_at marking.next s)) n → finite.get m.net.replicas.members (slot_at n s) ≢ None
  pub sources_there : (s : Slot) → IsIn (marking.marked).sources.items s → finite.get m.net.replicas.members s ≢ None
  pub room : HasRoom (2 + 2 * length (marking.marked).sources.items) m.net.replicas.events

-- ---- what the marking leaves

-- the placement stands, by one Place, and the one before it is kept; all else is as it was
pub record IsMarked {D : Type 0} {G : Ghosts D} (state : D → DiskState) (old : Members D G) (marking : Marking) (marked : Marked) (new : Members D G) : Type 0 where
  pub marked_is : marked ≡ marking.marked
  pub ran : Ran state old.net.replicas (place_ending marking.next marking.done) new.net.replicas
  pub state_is : new.net.state ≡ record old.net.state { place = marking.next }
  pub past : new.past.items ≡ old.past.items ++ old.net.state.place ∷ []
  pub fates : new.net.fates ≡ old.net.fates
  pub bag : new.net.bag ≡ old.net.bag
  pub slots : new.slots.items ≡ old.slots.items
  pub stopped : new.stopped.items ≡ old.stopped.items

-- the tenures of the sources ended, and the shards are answered, with the placement; all else is as it was
pub record HasEnded {D : Type 0} {G : Ghosts D} (state : D → DiskState) (old : Members D G) (marked : Marked) (answered : Answer) (new : Members D G) : Type 0 where
  pub answer_is : answered ≡ answer.Available marked.joined marked.printed marked.printed.version
  pub ran : Ran state old.net.replicas (flat_map end_at marked.sources.items) new.net.replicas
  pub keeps : KeepsButBoots old new
