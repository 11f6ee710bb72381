-- What is so of a cluster that stands after the turns of a run, and of the turns after which none stands. No machine is in it.
use Rattle.std.specs.Prelude.{◌≡◌, ◌≢◌, ◌<◌, ◌≤◌, ◌↔◌, ℕ, suc, List, [], length, Option, Some, None, false, slice_get}
use Rattle.m3_model.specs.Members.{IsIn}
use Rattle.m3_model.specs.declared.act.Fate.TheVariants.{Deliver}
use Rattle.m3_model.specs.declared.placement.Instance.{Instance}
use Rattle.m3_model.specs.declared.placement.Placement.{Placement}
use Rattle.m3_model.specs.declared.rules.MetaState.{MetaState}
use Rattle.m3_model.specs.declared.turn.Turn.{Turn}
use Rattle.m3_outside.specs.declared.disk.Disk.{Ghosts}
use Rattle.cluster_core.specs.Earlier.{HasTenure}
use Rattle.cluster_core.specs.declared.event.Event.TheVariants as event
use Rattle.node_calls.specs.replica_exchange.declared.slot.Slot.{Slot}
use Rattle.net_plan.specs.Fates.{FateMap, fate_of}
use Rattle.node_calls.specs.session_net.Ready.{IsReady}
use Rattle.node_calls.specs.session_net.Runs.{slot_at}
use Rattle.told_runs.specs.told_by.Hears.{HasReplica, IsNamedBy}
use Rattle.transcripts.specs.Caused.{kept_after}
use Rattle.transcripts.specs.Fates.{fate_in, is_stopped, numbering_after}
use Rattle.transcripts.specs.Placements.{placements, printed}
use Rattle.transcripts.specs.Record.{InnerTurn, inner_turns}
use Rattle.transcripts.specs.Rules.{rules_after, start_rules}
use Rattle.line_tracks.specs.calls.Left.{AreSlots, AreStoppedBy, NetIsLeftBy}
use Rattle.node_calls.specs.cluster_members.Kept.{IsKept, PastServes}
use Rattle.node_calls.specs.cluster_members.declared.members.Members.{Members}

-- No cluster stands after these turns of a run that found nothing: none of them printed a placement, and nothing was set or stopped.
pub record NoneStands (turns : List Turn) : Type 0 where
  pub prints : (turn : InnerTurn) → IsIn (inner_turns turns) turn → printed turn.answer ≡ None
  pub rules : rules_after (start_rules None) (inner_turns turns) ≡ start_rules None
  pub fates : (numbering_after 0 turns).fates ≡ []
  pub runs : (name : List ℕ) → is_stopped (inner_turns turns) name ≡ false

-- The slots are exactly those that have a replica: by the list and among the replicas. Each was given to its node, which is one of the placement's.
pub record HasSlots {D : Type 0} {G : Ghosts D} (m : Members D G) : Type 0 where
  pub are : AreSlots m.slots.items m.net.replicas
  pub given : (s : Slot) → IsIn m.slots.items s → (tenure : ℕ) × HasTenure m.net.replicas.events s.node s.shard tenure
  pub all : (n s : ℕ) → HasReplica m.net.replicas.events n s → IsIn m.slots.items (slot_at n s)
  pub placed : (s : Slot) → IsIn m.slots.items s → s.node < length m.net.state.place.instances

-- The placements that are kept are those that the turns found or printed, one of each version; none before has more nodes than the one that stands.
pub record AreKept (start : Option MetaState) (turns : List Turn) (standing : Placement) (past : List Placement) : Type 0 where
  pub are : (place : Placement) → IsIn (placements start (inner_turns turns)) place ↔ IsKept standing past place
  pub count : kept_after start (inner_turns turns) standing ≡ suc (length past)
  pub fewer : (place : Placement) → IsIn past place → length place.instances ≤ length standing.instances

-- each Place of the list is of a placement that is kept
abbrev pub PlacesAreKept : {D : Type 0} {G : Ghosts D} → Members D G → Type 0
PlacesAreKept m = (place : Placement) (done : List (ℕ × ℕ)) → IsIn m.net.replicas.events (event.Place place done) → IsKept m.net.state.place m.past.items place

-- no node of the placement has the name
abbrev pub IsUnnamed : Placement → List ℕ → Type 0
IsUnnamed place name = (n : ℕ) (own : Instance) → slice_get place.instances n ≡ Some own → own.name ≢ name

-- Fates were set, and nodes were stopped, of the placement's nodes alone.
pub record KnowsNodes (turns : List Turn) (place : Placement) (fates : FateMap) : Type 0 where
  pub delivers : (client call node : ℕ) → length place.instances ≤ node → fate_of fates (record { client = client; call = call; node = node }) ≡ Deliver
  pub unset : (client call : ℕ) (name : List ℕ) → IsUnnamed place name → fate_in (numbering_after 0 turns).fates client call name ≡ Deliver
  pub runs : (name : List ℕ) → IsUnnamed place name → is_stopped (inner_turns turns) name ≡ false

-- Calls may be made, by what the turns left, and by each placement that is kept; the slots are right; all Places call a node by one name; the nodes that are stopped are those that the turns
-- stopped; and no other nodes were set.
pub record ClusterStands {D : Type 0} {G : Ghosts D} (start : Option MetaState) (turns : List Turn) (m : Members D G) : Type 0 where
  pub left : NetIsLeftBy start turns m.net
  pub ready : IsReady m.net.state m.net.replicas m.net.bag
  pub kept : AreKept start turns m.net.state.place m.past.items
  pub serves : PastServes m
  pub placed : PlacesAreKept m
  pub known : KnowsNodes turns m.net.state.place m.net.fates
  pub slots : HasSlots m
  pub named : (n : ℕ) (own : Instance) → slice_get m.net.state.place.instances n ≡ Some own → IsNamedBy m.net.replicas.events n own.name
  pub stopped : AreStoppedBy turns m.net.state.place m.stopped.items
