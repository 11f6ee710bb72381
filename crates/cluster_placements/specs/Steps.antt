-- Lines that make a placement: what a cluster that stands answers, and what that leaves of it and of the disks that it doesn't have.
use Rattle.std.specs.Prelude.{◌≡◌, ◌≢◌, ◌⊎◌, ℕ, suc, ◌≤◌, ◌<◌, ◌-◌, ◌+◌, ◌*◌, List, [], ◌∷◌, ◌++◌, length, Some, None, Bool, true, false, replicate, slice_get, vec_len}
use Rattle.std.specs.FinMap.{get}
use Rattle.std.specs.List.{flat_map}
use Rattle.std.specs.List.Sorted.{IsPermutation, IsSorted}
use Rattle.std.specs.Vec.{vec_capacity}
use Rattle.m3_model.specs.Members.{IsIn}
use Rattle.m3_model.specs.declared.act.Act.{Act}
use Rattle.m3_model.specs.declared.answer.Answer.{Answer}
use Rattle.m3_model.specs.declared.answer.Answer.TheVariants as answer
use Rattle.m3_model.specs.declared.limits.TheConstants.{MOST_NODES, MOST_SHARDS, MOST_VERSIONS}
use Rattle.m3_model.specs.declared.placement.Instance.{Instance}
use Rattle.m3_model.specs.declared.placement.Placement.{Placement}
use Rattle.m3_outside.specs.Depots.{Depot}
use Rattle.m3_outside.specs.DiskState.{DiskState}
use Rattle.m3_outside.specs.Slots.{Held}
use Rattle.m3_outside.specs.declared.disk.Disk.{Ghosts}
use Rattle.m3_outside.specs.declared.slot.DiskSlot.{DiskSlot}
use Rattle.placement_acts.specs.Acts.{LeadsNowhere, LeadsTo, is_step_act}
use Rattle.placement_core.specs.Lawful.{IsLawful}
use Rattle.placement_core.specs.Shards.{nodes_of, shard_at}
use Rattle.placement_core.specs.Steps.{IsStep}
use Rattle.cluster_core.specs.declared.event.Asked.TheVariants as asked
use Rattle.cluster_core.specs.declared.event.Event.{Event}
use Rattle.cluster_core.specs.declared.event.Event.TheVariants as event
use Rattle.cluster_core.specs.declared.event.StepCall.TheVariants as call
use Rattle.cluster_core.specs.declared.event.StepReply.TheVariants as reply
use Rattle.node_calls.specs.replica_exchange.MachineCalls.{HasRoom}
use Rattle.node_calls.specs.replica_exchange.declared.slot.Slot.{Slot}
use Rattle.node_calls.specs.replica_calls.Slots.{MemberMap, slot_cmp}
use Rattle.node_calls.specs.session_net.Messages.{exchange}
use Rattle.node_calls.specs.session_net.Ready.{IsReady}
use Rattle.node_calls.specs.session_net.Runs.{Ran, slot_at, steps_of}
use Rattle.node_calls.specs.cluster_members.Kept.{PastServes}
use Rattle.node_calls.specs.cluster_members.declared.members.Members.{Members}
use Rattle.node_calls.specs.Halts.{AreManned}
use Rattle.first_cluster.specs.Depots.{AreOut}
use Rattle.cluster_placements.specs.Lending.{HaveGained, HaveReturned, IsUntakenAt}
use Rattle.cluster_placements.specs.Slots.{AreSlotsIn, left_slots, new_slots}
use Rattle.cluster_placements.specs.declared.plan.Change.{Change}

-- ---- events

-- a placement with which these moves end is asked for, and made
abbrev pub place_ending : Placement → List (ℕ × ℕ) → List Event
place_ending next done = event.Ask (asked.Place next done) ∷ event.Place next done ∷ []

-- it ends no move
abbrev pub place_events : Placement → List Event
place_events next = place_ending next []

-- the end of the tenure of the slot's replica is asked for, and done
abbrev pub end_at : Slot → List Event
end_at s = exchange s.node s.shard call.End reply.Done

-- the placement comes, and then the tenures of these slots end
abbrev pub step_events : Placement → List Slot → List Event
step_events next left = place_events next ++ flat_map end_at left

-- so many these are
abbrev pub step_length : List Slot → ℕ
step_length left = 2 + 2 * length left

-- ---- what a line needs

-- so many placements are kept, with the one that stands
abbrev pub kept_in : {D : Type 0} {G : Ghosts D} → Members D G → ℕ
kept_in m = suc (length m.past.items)

-- Calls may be made, by each placement that is kept; the slots are those of replicas, whose disks alone are out; each is one of the placement's nodes and shards; and a slot without a replica has
-- no step in the list.
pub record MayChange {D : Type 0} {G : Ghosts D} (m : Members D G) (held : DiskSlot → Held D) : Type 0 where
  pub ready : IsReady m.net.state m.net.replicas m.net.bag
  pub serves : PastServes m
  pub slots : AreSlotsIn m.net.state.place m.slots.items
  pub out : AreOut m.slots.items m.net.replicas.members held
  pub manned : AreManned m.slots.items m.net.replicas
  pub unstepped : (s : Slot) → get m.net.replicas.members s ≡ None → steps_of s m.net.replicas.events ≡ []

-- ---- the placement that comes next

-- The cluster's slots and those to which the placement gives their first replica, by shard; and each further node runs.
pub record FitsNext {D : Type 0} {G : Ghosts D} (m : Members D G) (next : Placement) (slots : List Slot) (stopped : List Bool) : Type 0 where
  pub slots_are : IsPermutation (m.slots.items ++ new_slots m.net.replicas.members next) slots
  pub order : IsSorted slot_cmp slots
  pub stopped_are : stopped ≡ m.stopped.items ++ replicate (length next.instances - length m.stopped.items) false

-- all that it needs is there
pub record IsFitted {D : Type 0} {G : Ghosts D} (m : Members D G) (change : Change) : Type 0 where
  pub printed : change.printed ≡ change.next
  pub new_are : change.new.items ≡ new_slots m.net.replicas.members change.next
  pub left_are : change.left.items ≡ left_slots m.net.state.place change.next
  pub fits : FitsNext m change.next change.slots.items change.stopped.items

-- the act leads to the placement
pub record LeadsOn (place : Placement) (kept : ℕ) (a : Act) (next : Placement) : Type 0 where
  pub leads : LeadsTo (Some place) kept a next
  pub lawful : IsLawful next
  pub step : IsStep place next []

pub record IsChange {D : Type 0} {G : Ghosts D} (m : Members D G) (kept : ℕ) (a : Act) (change : Change) : Type 0 where
  pub leads : LeadsOn m.net.state.place kept a change.next
  pub fitted : IsFitted m change

-- ---- what a line leaves

-- The next placement stands: over the disk of each slot that had none stands a replica that never began; the list has the placement, and the tenures of the
-- replicas end that it takes away; the one before it is kept; the slots are those of all replicas, and nodes that are stopped stay so.
pub record IsPlaced {D : Type 0} {G : Ghosts D} (state : D → DiskState) (depot : Depot D) (old : Members D G) (next : Placement) (after : Depot D) (new : Members D G) : Type 0 where
  pub made : MemberMap D
  pub gained : HaveGained state (new_slots old.net.replicas.members next) depot old.net.replicas.members after made
  pub ran : Ran state (record { members = made; events = old.net.replicas.events }) (step_events next (left_slots old.net.state.place next)) new.net.replicas
  pub state_is : new.net.state ≡ record old.net.state { place = next }
  pub past : new.past.items ≡ old.past.items ++ old.net.state.place ∷ []
  pub fates : new.net.fates ≡ old.net.fates
  pub bag : new.net.bag ≡ old.net.bag
  pub fits : FitsNext old next new.slots.items new.stopped.items

-- the cluster is as it was
pub record IsAsItWas {D : Type 0} {G : Ghosts D} (old new : Members D G) : Type 0 where
  pub state_is : new.net.state ≡ old.net.state
  pub past : new.past.items ≡ old.past.items
  pub replicas : new.net.replicas ≡ old.net.replicas
  pub fates : new.net.fates ≡ old.net.fates
  pub bag : new.net.bag ≡ old.net.bag
  pub slots : new.slots.items ≡ old.slots.items
  pub stopped : new.stopped.items ≡ old.stopped.items

-- ---- answers

-- the placement that the act leads to stands, and is answered with its version
pub record MakesNext {D : Type 0} {G : Ghosts D} (state : D → DiskState) (kept : ℕ) (a : Act) (depot : Depot D) (old : Members D G) (answered : Answer) (after : Depot D) (new : Members D G) : Type 0 where
  pub next : Placement
  pub leads : LeadsOn old.net.state.place kept a next
  pub answer_is : answered ≡ answer.Placed next next.version
  pub placed : IsPlaced state depot old next after new

-- the act leads nowhere, and no disk was taken
pub record MakesNone {D : Type 0} {G : Ghosts D} (kept : ℕ) (a : Act) (depot : Depot D) (old : Members D G) (answered : Answer) (after : Depot D) (new : Members D G) : Type 0 where
  pub nowhere : LeadsNowhere (Some old.net.state.place) kept a answered
  pub same : IsAsItWas old new
  pub depot_is : after ≡ depot

-- the disk of a slot that it gives its first replica couldn't be taken, and those that were taken before it are back
pub record LacksDisk {D : Type 0} {G : Ghosts D} (state : D → DiskState) (kept : ℕ) (a : Act) (depot : Depot D) (old : Members D G) (answered : Answer) (after : Depot D) (new : Members D G) : Type 0 where
  pub next : Placement
  pub leads : LeadsOn old.net.state.place kept a next
  pub slot : Slot
  pub node : Instance
  pub named : slice_get next.instances slot.node ≡ Some node
  pub answer_is : answered ≡ answer.Disk node.name slot.shard
  pub untaken : IsUntakenAt state (new_slots old.net.replicas.members next) depot after slot
  pub same : IsAsItWas old new

-- the list has no room for what it adds, and no disk was taken
pub record LacksRoom {D : Type 0} {G : Ghosts D} (kept : ℕ) (a : Act) (depot : Depot D) (old : Members D G) (answered : Answer) (after : Depot D) (new : Members D G) : Type 0 where
  pub next : Placement
  pub leads : LeadsOn old.net.state.place kept a next
  pub answer_is : answered ≡ answer.Full
  pub no_room : ¬ HasRoom (step_length (left_slots old.net.state.place next)) old.net.replicas.events
  pub same : IsAsItWas old new
  pub depot_is : after ≡ depot

-- memory was wanted for its replicas, and each disk that was taken is back
pub record LacksMemory {D : Type 0} {G : Ghosts D} (state : D → DiskState) (kept : ℕ) (a : Act) (depot : Depot D) (old : Members D G) (answered : Answer) (after : Depot D) (new : Members D G) : Type 0 where
  pub next : Placement
  pub leads : LeadsOn old.net.state.place kept a next
  pub answer_is : answered ≡ answer.Memory
  pub returned : HaveReturned state (new_slots old.net.replicas.members next) depot after
  pub same : IsAsItWas old new

-- what the line of an act is answered, and what it leaves
abbrev pub IsChanged : {D : Type 0} {G : Ghosts D} → (D → DiskState) → ℕ → Act → Depot D → Members D G → Answer → Depot D → Members D G → Type 0
IsChanged state kept a depot old answered after new =
    MakesNext state kept a depot old answered after new
    ⊎ (MakesNone kept a depot old answered after new ⊎ (LacksDisk state kept a depot old answered after new ⊎ (LacksRoom kept a depot old answered after new ⊎ LacksMemory state kept a depot old answered after new)))

-- ---- a line in two parts

-- it was planned for a line of this cluster
pub record IsPlanned {D : Type 0} {G : Ghosts D} (m : Members D G) (change : Change) : Type 0 where
  pub line : Act
  pub step : is_step_act line ≡ true
  pub planned : IsChange m (kept_in m) line change

-- The planned placement stands where one is answered, which is that one; else the cluster is as it was.
abbrev pub MakesPlanned : {D : Type 0} {G : Ghosts D} → (D → DiskState) → Depot D → Members D G → Placement → Answer → Depot D → Members D G → Type 0
MakesPlanned state depot old next (answer.Placed place version) after new = (place ≡ next) × (version ≡ next.version) × IsPlaced state depot old next after new
MakesPlanned state depot old next _ after new = IsAsItWas old new

-- ---- within a line

-- the replicas of new slots are made, and there is room for the placement that stands among those before, and for the events
pub record MayBeMade {D : Type 0} {G : Ghosts D} (m : Members D G) (change : Change) : Type 0 where
  pub ready : IsReady m.net.state m.net.replicas m.net.bag
  pub serves : PastServes m
  pub few_past : kept_in m < MOST_VERSIONS
  pub past_room : vec_len m.past < vec_capacity m.past
  pub lawful : IsLawful change.next
  pub step : IsStep m.net.state.place change.next []
  pub left_are : change.left.items ≡ left_slots m.net.state.place change.next
  pub there : (n s : ℕ) → IsIn (nodes_of (shard_at change.next s)) n → get m.net.replicas.members (slot_at n s) ≢ None
  pub slots_few : length change.slots.items ≤ MOST_NODES * MOST_SHARDS
  pub flags : length change.stopped.items ≡ length change.next.instances
  pub room : HasRoom (step_length change.left.items) m.net.replicas.events

-- the placement stands, and the one before it is kept
pub record IsMade {D : Type 0} {G : Ghosts D} (state : D → DiskState) (old : Members D G) (change : Change) (answered : Answer) (new : Members D G) : Type 0 where
  pub answer_is : answered ≡ answer.Placed change.printed change.printed.version
  pub ready : IsReady new.net.state new.net.replicas new.net.bag
  pub serves : PastServes new
  pub past : new.past.items ≡ old.past.items ++ old.net.state.place ∷ []
  pub ran : Ran state old.net.replicas (step_events change.next change.left.items) new.net.replicas
  pub state_is : new.net.state ≡ record old.net.state { place = change.next }
  pub fates : new.net.fates ≡ old.net.fates
  pub bag : new.net.bag ≡ old.net.bag
  pub slots : new.slots.items ≡ change.slots.items
  pub stopped : new.stopped.items ≡ change.stopped.items
