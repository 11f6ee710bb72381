-- What a cluster begins with, and what `init` answers where it makes none.
use Rattle.std.specs.Prelude.{◌≡◌, ℕ, ⊤, List, [], ◌∷◌, length, Some, false, replicate, slice_get}
use Rattle.std.specs.FinMap.{empty}
use Rattle.m3_model.specs.Members.{IsIn}
use Rattle.m3_model.specs.declared.answer.Answer.{Answer}
use Rattle.m3_model.specs.declared.answer.Answer.TheVariants as answer
use Rattle.m3_model.specs.declared.placement.Instance.{Instance}
use Rattle.m3_model.specs.declared.placement.Placement.{Placement}
use Rattle.m3_model.specs.declared.rules.MetaState.{MetaState}
use Rattle.m3_outside.specs.Causes.{Rose}
use Rattle.m3_outside.specs.Depots.{Depot}
use Rattle.m3_outside.specs.DiskState.{DiskState}
use Rattle.m3_outside.specs.declared.disk.Disk.{Ghosts}
use Rattle.net_plan.specs.Fates.{fates_of}
use Rattle.placement_core.specs.Lawful.{IsLawful}
use Rattle.placement_plan.specs.First.{IsFirstPlacement, IsInitial, RefusesInitial}
use Rattle.placement_plan.specs.declared.plan_err.PlaceErr.TheVariants as refused
use Rattle.cluster_members.specs.cluster_core.declared.event.Event.{Event}
use Rattle.cluster_members.specs.cluster_core.declared.event.Event.TheVariants as event
use Rattle.cluster_members.specs.replica_exchange.declared.slot.Slot.{Slot}
use Rattle.cluster_members.specs.session_net.Runs.{slot_at}
use Rattle.cluster_members.specs.declared.members.Members.{Members}
use Rattle.first_cluster.specs.Lending.{AreOpened, HasReturned, HasTaken}
use Rattle.first_cluster.specs.Slots.{slots_in, slots_of, starts_of}
use Rattle.first_cluster.specs.declared.first.Lent.{Lent}
use Rattle.first_cluster.specs.declared.plan.Plan.{Plan}

-- the events that open a list: its placement and its rules
abbrev pub opening_of : MetaState → List Event
opening_of state = event.Place state.place [] ∷ event.Clock state.rules ∷ []

-- the plan of a cluster on these nodes
pub record IsPlan (rf shards seed : ℕ) (nodes : List (List ℕ × List ℕ)) (plan : Plan) : Type 0 where
  pub initial : IsInitial rf shards nodes plan.state.place
  pub place : IsFirstPlacement rf shards nodes plan.state.place
  pub lawful : IsLawful plan.state.place
  pub rules : plan.state.rules ≡ record { now = 0; spaces = [] }
  pub seed_is : plan.state.seed ≡ seed
  pub starts : plan.starts.items ≡ starts_of plan.state.place
  pub slots : plan.slots.items ≡ slots_in plan.starts.items
  pub bag : plan.bag ≡ []
  pub stopped : plan.stopped.items ≡ replicate (length plan.state.place.instances) false
  pub printed : plan.printed ≡ plan.state.place

-- the cluster that `init` makes of these nodes: at moment 0 without namespaces, without a placement before its first, with a replica over the disk of each slot, begun behind the events that open the
-- list; nothing is lost or late, and each node runs
pub record IsFirst {D : Type 0} {G : Ghosts D} (state : D → DiskState) (rf shards seed : ℕ) (nodes : List (List ℕ × List ℕ)) (old new : Depot D) (m : Members D G) : Type 0 where
  pub initial : IsInitial rf shards nodes m.net.state.place
  pub place : IsFirstPlacement rf shards nodes m.net.state.place
  pub lawful : IsLawful m.net.state.place
  pub rules : m.net.state.rules ≡ record { now = 0; spaces = [] }
  pub seed_is : m.net.state.seed ≡ seed
  pub slots : m.slots.items ≡ slots_of m.net.state.place
  pub opened : AreOpened state m.slots.items (starts_of m.net.state.place) (opening_of m.net.state) old new m.net.replicas
  pub fates : m.net.fates ≡ fates_of []
  pub bag : m.net.bag ≡ []
  pub past : m.past.items ≡ []
  pub stopped : m.stopped.items ≡ replicate (length m.net.state.place.instances) false

-- the plan of a cluster on some nodes
pub record IsSomePlan (plan : Plan) : Type 0 where
  pub rf : ℕ
  pub shards : ℕ
  pub seed : ℕ
  pub nodes : List (List ℕ × List ℕ)
  pub is : IsPlan rf shards seed nodes plan

-- The cluster before its replicas begin, with the starts of these: over the disk of each slot stands one that did no step, behind the events that open the list.
pub record IsLent {D : Type 0} {G : Ghosts D} (state : D → DiskState) (rf shards seed : ℕ) (nodes : List (List ℕ × List ℕ)) (old new : Depot D) (lent : Lent D G) : Type 0 where
  pub initial : IsInitial rf shards nodes lent.members.net.state.place
  pub place : IsFirstPlacement rf shards nodes lent.members.net.state.place
  pub lawful : IsLawful lent.members.net.state.place
  pub rules : lent.members.net.state.rules ≡ record { now = 0; spaces = [] }
  pub seed_is : lent.members.net.state.seed ≡ seed
  pub slots : lent.members.slots.items ≡ slots_of lent.members.net.state.place
  pub starts : lent.starts.items ≡ starts_of lent.members.net.state.place
  pub printed : lent.printed ≡ lent.members.net.state.place
  pub taken : HasTaken state lent.members.slots.items old lent.members.net.replicas.members new
  pub events : lent.members.net.replicas.events ≡ opening_of lent.members.net.state
  pub fates : lent.members.net.fates ≡ fates_of []
  pub bag : lent.members.net.bag ≡ []
  pub past : lent.members.past.items ≡ []
  pub stopped : lent.members.stopped.items ≡ replicate (length lent.members.net.state.place.instances) false

-- the same, on some nodes and over some disks
pub record IsSomeLent {D : Type 0} {G : Ghosts D} (state : D → DiskState) (now : Depot D) (lent : Lent D G) : Type 0 where
  pub rf : ℕ
  pub shards : ℕ
  pub seed : ℕ
  pub nodes : List (List ℕ × List ℕ)
  pub first : Depot D
  pub is : IsLent state rf shards seed nodes first now lent

-- a disk of one of the placement's slots couldn't be taken
pub record IsDiskUntaken {D : Type 0} (rf shards seed : ℕ) (nodes : List (List ℕ × List ℕ)) (name : List ℕ) (shard : ℕ) (old new : Depot D) : Type 0 where
  pub place : Placement
  pub initial : IsInitial rf shards nodes place
  pub first : IsFirstPlacement rf shards nodes place
  pub node : ℕ
  pub instance_ : Instance
  pub named : slice_get place.instances node ≡ Some instance_
  pub name_is : name ≡ instance_.name
  pub of_slot : IsIn (slots_of place) (slot_at node shard)
  pub rose : Rose old.faults new.faults

-- the disk of the slot couldn't be taken; or there is no memory to say so
abbrev pub IsDiskAnswer : Placement → Slot → Answer → Type 0
IsDiskAnswer place slot (answer.Disk name shard) = (shard ≡ slot.shard) × ((instance_ : Instance) × (slice_get place.instances slot.node ≡ Some instance_) × (name ≡ instance_.name))
IsDiskAnswer place slot answer.Memory = ⊤
IsDiskAnswer place slot _ = ⊥

-- `init` is refused, and no disk is out; where its nodes are in fewer isolation groups than a shard has replicas, nothing was done at any disk
abbrev pub IsRefusedInit : {D : Type 0} → (D → DiskState) → ℕ → ℕ → ℕ → List (List ℕ × List ℕ) → Depot D → Depot D → Answer → Type 0
IsRefusedInit state rf shards seed nodes old new (answer.Group shard) = RefusesInitial rf nodes (refused.Group shard) × (new ≡ old)
IsRefusedInit state rf shards seed nodes old new (answer.Disk name shard) = IsDiskUntaken rf shards seed nodes name shard old new × HasReturned state old empty new
IsRefusedInit state rf shards seed nodes old new answer.Memory = HasReturned state old empty new
IsRefusedInit state rf shards seed nodes old new _ = ⊥
