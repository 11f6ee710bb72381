-- What befalls nodes, and messages to them.
use Rattle.std.specs.Prelude.{◌≡◌, ℕ, ◌*◌, ◌<◌, ◌≤◌, List, ◌++◌, length, Option, Some, None, Bool, true, false, Result, Ok, Err, slice_get, slice_set, ⊤, decimal}
use Rattle.std.specs.List.{flat_map}
use Rattle.m3_outside.specs.declared.disk.Disk.{Ghosts}
use Rattle.m3_model.specs.declared.act.Fate.{Fate}
use Rattle.m3_model.specs.declared.answer.Answer.{Answer}
use Rattle.m3_model.specs.declared.answer.Answer.TheVariants as answer
use Rattle.m3_model.specs.declared.placement.Instance.{Instance}
use Rattle.m3_model.specs.declared.reason.Reason.{Reason}
use Rattle.m3_model.specs.declared.reason.Reason.TheVariants as reason
use Rattle.m3_outside.specs.DiskState.{DiskState}
use Rattle.net_plan.specs.Fates.{Item, fates_of}
use Rattle.cluster_members.specs.cluster_core.declared.event.Event.{Event}
use Rattle.cluster_members.specs.replica_exchange.MachineCalls.{HasRoom}
use Rattle.cluster_members.specs.session_net.Deliveries as late
use Rattle.cluster_members.specs.session_net.Runs.{Ran}
use Rattle.cluster_members.specs.session_net.declared.session_err.SessionErr.TheVariants as err
use Rattle.cluster_members.specs.Names.{AreNumbered, first_missing, node_named}
use Rattle.cluster_members.specs.declared.members.Members.{Members}
use Rattle.node_calls.specs.Halts.{IsUnrestarted, restart_at, slots_of_node, stop_at}

-- ---- fates

-- each name has its number; else the first that has none, or want of memory
abbrev pub IsResolved : List Instance → List (ℕ × ℕ × List ℕ × Fate) → Result (List Item) Answer → Type 0
IsResolved instances list (Ok items) = AreNumbered instances list items
IsResolved instances list (Err (answer.Unknown name)) = first_missing instances list ≡ Some name
IsResolved instances list (Err answer.Memory) = ⊤
IsResolved instances list (Err _) = ⊥

-- all but its fates is as it was
pub record KeepsButFates {D : Type 0} {G : Ghosts D} (old new : Members D G) : Type 0 where
  pub state : new.net.state ≡ old.net.state
  pub replicas : new.net.replicas ≡ old.net.replicas
  pub bag : new.net.bag ≡ old.net.bag
  pub slots : new.slots.items ≡ old.slots.items
  pub past : new.past.items ≡ old.past.items
  pub stopped : new.stopped.items ≡ old.stopped.items

-- fates are set in place of all earlier ones, unless a node isn't there
abbrev pub IsFated : {D : Type 0} {G : Ghosts D} → Members D G → List (ℕ × ℕ × List ℕ × Fate) → Answer → Members D G → Type 0
IsFated old list answer.Done new = (items : List Item) × AreNumbered old.net.state.place.instances list items × (new.net.fates ≡ fates_of items) × KeepsButFates old new
IsFated old list (answer.Unknown name) new = (first_missing old.net.state.place.instances list ≡ Some name) × (new ≡ old)
IsFated old list answer.Memory new = (new ≡ old)
IsFated old list _ new = ⊥

-- ---- deliveries

-- all but its replicas and its bag is as it was
pub record KeepsButReplicas {D : Type 0} {G : Ghosts D} (old new : Members D G) : Type 0 where
  pub state : new.net.state ≡ old.net.state
  pub fates : new.net.fates ≡ old.net.fates
  pub slots : new.slots.items ≡ old.slots.items
  pub past : new.past.items ≡ old.past.items
  pub stopped : new.stopped.items ≡ old.stopped.items

-- the late writes are delivered, unless memory is wanted or the list lacks room for what they add
abbrev pub IsDeliverAnswer : {D : Type 0} {G : Ghosts D} → (D → DiskState) → Members D G → Answer → Members D G → Type 0
IsDeliverAnswer state old (answer.Outcomes outcomes) new = late.HasDelivered state old.net outcomes new.net × KeepsButReplicas old new
IsDeliverAnswer state old answer.Memory new = late.IsUndelivered old.net new.net err.Memory × KeepsButReplicas old new
IsDeliverAnswer state old answer.Full new = late.IsUndelivered old.net new.net err.Full × KeepsButReplicas old new
IsDeliverAnswer state old _ new = ⊥

-- ---- nodes

-- the node of this name, which is stopped or not
pub record IsNode {D : Type 0} {G : Ghosts D} (m : Members D G) (name : List ℕ) (halted : Bool) : Type 0 where
  pub node : ℕ
  pub found : node_named name m.net.state.place.instances ≡ Some node
  pub is : slice_get m.stopped.items node ≡ Some halted

-- no node has the name
abbrev pub IsNowhere : {D : Type 0} {G : Ghosts D} → Members D G → List ℕ → Type 0
IsNowhere m name = node_named name m.net.state.place.instances ≡ None

-- all but its replicas and its stopped nodes is as it was
pub record KeepsButNodes {D : Type 0} {G : Ghosts D} (old new : Members D G) : Type 0 where
  pub state : new.net.state ≡ old.net.state
  pub fates : new.net.fates ≡ old.net.fates
  pub bag : new.net.bag ≡ old.net.bag
  pub slots : new.slots.items ≡ old.slots.items
  pub past : new.past.items ≡ old.past.items

-- the list lacks room for so many events for each slot of the node, and nothing changed
pub record LacksRoom {D : Type 0} {G : Ghosts D} (each node : ℕ) (old new : Members D G) : Type 0 where
  pub room : ¬ HasRoom (each * length (slots_of_node node old.slots.items)) old.net.replicas.events
  pub same : new ≡ old

-- ---- stops

-- a node that ran is stopped, with all its replicas
pub record IsHalted {D : Type 0} {G : Ghosts D} (state : D → DiskState) (old : Members D G) (name : List ℕ) (new : Members D G) : Type 0 where
  pub ran : IsNode old name false
  pub stopped_now : new.stopped.items ≡ slice_set old.stopped.items ran.node true
  pub stopped : Ran state old.net.replicas (flat_map stop_at (slots_of_node ran.node old.slots.items)) new.net.replicas
  pub keeps : KeepsButNodes old new

-- a node is stopped, unless it isn't there or is stopped, or the list lacks room
abbrev pub IsStopped : {D : Type 0} {G : Ghosts D} → (D → DiskState) → Members D G → List ℕ → Answer → Members D G → Type 0
IsStopped state old name answer.Done new = IsHalted state old name new
IsStopped state old name (answer.Unknown unknown) new = IsNowhere old name × (unknown ≡ name) × (new ≡ old)
IsStopped state old name (answer.State node) new = IsNode old name true × (node ≡ name) × (new ≡ old)
IsStopped state old name answer.Full new = (ran : IsNode old name false) × LacksRoom 2 ran.node old new
IsStopped state old name _ new = ⊥

-- ---- restarts

-- a stopped node runs again, with all its replicas restarted
pub record IsStarted {D : Type 0} {G : Ghosts D} (state : D → DiskState) (old : Members D G) (name : List ℕ) (new : Members D G) : Type 0 where
  pub was : IsNode old name true
  pub stopped_now : new.stopped.items ≡ slice_set old.stopped.items was.node false
  pub restarted : Ran state old.net.replicas (flat_map restart_at (slots_of_node was.node old.slots.items)) new.net.replicas
  pub keeps : KeepsButNodes old new

-- one of its replicas couldn't be restarted: all are stopped again, and the node stays stopped
pub record IsUnstarted {D : Type 0} {G : Ghosts D} (state : D → DiskState) (old : Members D G) (name : List ℕ) (shard : ℕ) (why : Reason) (new : Members D G) : Type 0 where
  pub was : IsNode old name true
  pub tried : List Event
  pub refused : IsUnrestarted (slots_of_node was.node old.slots.items) shard why tried
  pub stopped : Ran state old.net.replicas (tried ++ flat_map stop_at (slots_of_node was.node old.slots.items)) new.net.replicas
  pub stays : new.stopped.items ≡ old.stopped.items
  pub keeps : KeepsButNodes old new

-- a node is restarted, unless it isn't there, isn't stopped, the list lacks room, or one of its replicas can't be
abbrev pub IsRestarted : {D : Type 0} {G : Ghosts D} → (D → DiskState) → Members D G → List ℕ → Answer → Members D G → Type 0
IsRestarted state old name answer.Done new = IsStarted state old name new
IsRestarted state old name (answer.Unknown unknown) new = IsNowhere old name × (unknown ≡ name) × (new ≡ old)
IsRestarted state old name (answer.State node) new = IsNode old name false × (node ≡ name) × (new ≡ old)
IsRestarted state old name (answer.Disk node shard) new = (node ≡ name) × IsUnstarted state old name shard reason.Disk new
IsRestarted state old name answer.Memory new = (shard : ℕ) × IsUnstarted state old name shard reason.Memory new
IsRestarted state old name answer.Full new = (was : IsNode old name true) × LacksRoom 4 was.node old new
IsRestarted state old name _ new = ⊥

-- ---- bootstraps

-- all but its replicas is as it was
pub record KeepsButBoots {D : Type 0} {G : Ghosts D} (old new : Members D G) : Type 0 where
  pub keeps : KeepsButNodes old new
  pub stopped : new.stopped.items ≡ old.stopped.items

-- the shard is there, if one is asked for
abbrev pub HasShard : {D : Type 0} {G : Ghosts D} → Members D G → Option ℕ → Type 0
HasShard m None = ⊤
HasShard m (Some shard) = shard < length m.net.state.place.shards

-- the node runs, and the shard is there
pub record MayBoot {D : Type 0} {G : Ghosts D} (m : Members D G) (name : List ℕ) (asked : Option ℕ) : Type 0 where
  pub runs : IsNode m name false
  pub has_shard : HasShard m asked

-- the number of a shard that isn't there
abbrev pub IsNoShard : {D : Type 0} {G : Ghosts D} → Members D G → Option ℕ → List ℕ → Type 0
IsNoShard m None name = ⊥
IsNoShard m (Some shard) name = (length m.net.state.place.shards ≤ shard) × (name ≡ decimal shard)
