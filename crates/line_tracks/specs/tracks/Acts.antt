-- What a cluster answers an act, and what that leaves of it.
use Rattle.std.specs.Prelude.{◌≡◌, ◌<◌, ◌⊎◌, ℕ, List, Option, Some, None, IsSome, slice_index}
use Rattle.m3_model.specs.declared.act.Act.{Act}
use Rattle.m3_model.specs.declared.act.Act.TheVariants as act
use Rattle.m3_model.specs.declared.answer.Answer.{Answer}
use Rattle.m3_model.specs.declared.answer.Answer.TheVariants as answer
use Rattle.m3_model.specs.declared.point.Pick.TheVariants as pick
use Rattle.m3_outside.specs.Depots.{Depot}
use Rattle.m3_outside.specs.DiskState.{DiskState}
use Rattle.m3_outside.specs.declared.disk.Disk.{Ghosts}
use Rattle.cluster_core.specs.declared.event.StepCall.TheVariants as call
use Rattle.node_calls.specs.replica_exchange.declared.call_id.CallId.{CallId}
use Rattle.node_calls.specs.cluster_members.Calls.{IsFetchAnswer, IsWritten}
use Rattle.node_calls.specs.cluster_members.Steps.{IsMoved, IsSpaceAdded}
use Rattle.node_calls.specs.cluster_members.declared.members.Members.{Members}
use Rattle.node_calls.specs.Nodes.{IsDeliverAnswer, IsFated, IsRestarted, IsStopped}
use Rattle.cluster_joins.specs.Boots.{IsBooted}
use Rattle.cluster_upkeep.specs.Upkeep.{IsSwept, IsTold}
use Rattle.first_cluster.specs.First.{IsFirst, IsRefusedInit}
use Rattle.cluster_placements.specs.Steps.{IsChanged, kept_in}
use Rattle.line_tracks.specs.tracks.Numbers.{last_number}

-- ---- `init`

-- `init` makes a cluster on its nodes where none stands, and takes their disks; where it is refused all are given back
abbrev pub IsInitAnswer : {D : Type 0} {G : Ghosts D} → (D → DiskState) → Depot D → Option (Members D G) → ℕ → ℕ → ℕ → List (List ℕ × List ℕ) → Answer → Depot D → Option (Members D G) → Type 0
IsInitAnswer {D} {G} state depot old rf shards seed nodes (answer.Placed place version) after new =
    (old ≡ None) × (m : Members D G) × (new ≡ Some m) × IsFirst state rf shards seed nodes depot after m × (place ≡ m.net.state.place) × (version ≡ place.version)
IsInitAnswer state depot old rf shards seed nodes answer.Order after new = IsSome old × (new ≡ old) × (after ≡ depot)
IsInitAnswer state depot old rf shards seed nodes answered after new = (old ≡ None) × (new ≡ None) × IsRefusedInit state rf shards seed nodes depot after answered

-- ---- other acts

-- a call that has a number of its own is made; the last number is none
abbrev pub MayCall : {D : Type 0} {G : Ghosts D} → ℕ → Type 0 → Answer → Members D G → Members D G → Type 0
MayCall number Made answered m g = ((number < last_number) × Made) ⊎ ((number ≡ last_number) × (answered ≡ answer.Memory) × (g ≡ m))

-- what an act other than `init` is answered by a cluster that stands, made as this call where it is one, and what it leaves
abbrev pub Does : {D : Type 0} {G : Ghosts D} → (D → DiskState) → CallId → Members D G → Act → Answer → Members D G → Type 0
Does state id m (act.Namespace name block past future retention) answered g = IsSpaceAdded state m (record { name = name; block = block; past = past; future = future; retention = retention }) answered g
Does state id m (act.Now now) answered g = IsMoved state m now answered g
Does state id m (act.Write ns name t v level version) answered g = MayCall id.number (IsWritten state m id (record { ns = ns; id = name; t = t; v = v }) level version answered g) answered m g
Does state id m (act.Fetch ns name from to level version) answered g = MayCall id.number (IsFetchAnswer state m id ns (λ k. pick.One k name) (record { from = from; to = to }) level version answered g) answered m g
Does state id m (act.Match ns wanted from to level version) answered g = MayCall id.number (IsFetchAnswer state m id ns (λ k. pick.Match k wanted) (record { from = from; to = to }) level version answered g) answered m g
Does state id m (act.Fates list) answered g = IsFated m list answered g
Does state id m act.Deliver answered g = IsDeliverAnswer state m answered g
Does state id m (act.Stop node) answered g = IsStopped state m node answered g
Does state id m (act.Restart node pick) answered g = IsRestarted state m node answered g
Does state id m (act.Bootstrap node shard) answered g = IsBooted state m node shard answered g
Does state id m act.Tick answered g = IsSwept state (call.Tick m.net.state.rules) m answered g
Does state id m act.Flush answered g = IsSwept state (call.Flush m.net.state.rules) m answered g
Does state id m act.Snapshot answered g = IsSwept state call.Snapshot m answered g
Does state id m act.Status answered g = IsTold state m answered g
Does state id m _ answered g = ⊥

-- out of order where no cluster stands; else it does the act, and one stands afterwards
abbrev pub OnMembers : {D : Type 0} {G : Ghosts D} → Option (Members D G) → (Members D G → Members D G → Type 0) → Answer → Option (Members D G) → Type 0
OnMembers None Step answered new = (answered ≡ answer.Order) × (new ≡ None)
OnMembers {D} {G} (Some m) Step answered new = (g : Members D G) × (new ≡ Some g) × Step m g

-- the next call of the lines outside `par`
abbrev pub next_call : List ℕ → CallId
next_call calls = record { client = 0; number = slice_index calls 0 }

-- a line that makes a placement, out of order where no cluster stands; it takes disks
abbrev pub IsStepAnswer : {D : Type 0} {G : Ghosts D} → (D → DiskState) → Depot D → Option (Members D G) → Act → Answer → Depot D → Option (Members D G) → Type 0
IsStepAnswer state depot None a answered after new = (answered ≡ answer.Order) × (new ≡ None) × (after ≡ depot)
IsStepAnswer {D} {G} state depot (Some m) a answered after new = (g : Members D G) × (new ≡ Some g) × IsChanged state (kept_in m) a depot m answered after g

-- `init` and the lines that make a placement take disks; any other act is done with the next call, and leaves the disks that the cluster doesn't have
abbrev pub IsServedBy : {D : Type 0} {G : Ghosts D} → (D → DiskState) → List ℕ → Depot D → Option (Members D G) → Act → Answer → Depot D → Option (Members D G) → Type 0
IsServedBy state calls depot old (act.Init rf shards seed nodes) answered after new = IsInitAnswer state depot old rf shards seed nodes answered after new
IsServedBy state calls depot old (act.Add node group) answered after new = IsStepAnswer state depot old (act.Add node group) answered after new
IsServedBy state calls depot old (act.Drain node) answered after new = IsStepAnswer state depot old (act.Drain node) answered after new
IsServedBy state calls depot old (act.Cancel node) answered after new = IsStepAnswer state depot old (act.Cancel node) answered after new
IsServedBy state calls depot old (act.Remove node) answered after new = IsStepAnswer state depot old (act.Remove node) answered after new
IsServedBy state calls depot old (act.Replace node by group) answered after new = IsStepAnswer state depot old (act.Replace node by group) answered after new
IsServedBy state calls depot old a answered after new = OnMembers old (λ m g. Does state (next_call calls) m a answered g) answered new × (after ≡ depot)
