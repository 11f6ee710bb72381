-- The state that a cluster keeps, and the one to which a line leads.
use Rattle.std.specs.Prelude.{◌≡◌, ◌≢◌, ◌≤◌, ◌<◌, ℕ, suc, [], length, map, Option, Some, None, Bool, true, false, IsTrue, List, Result, Ok, Err, ⊤}
use Rattle.m3_model.specs.Members.{IsIn}
use Rattle.m3_model.specs.declared.act.Act.{Act}
use Rattle.m3_model.specs.declared.act.Act.TheVariants as act
use Rattle.m3_model.specs.declared.answer.Answer.{Answer}
use Rattle.m3_model.specs.declared.answer.Answer.TheVariants as answer
use Rattle.m3_model.specs.declared.limits.TheConstants.{MOST_VERSIONS}
use Rattle.m3_model.specs.declared.rules.MetaState.{MetaState}
use Rattle.m3_model.specs.declared.rules.Space.{Space}
use Rattle.m3_model.specs.declared.turn.Request.{Request}
use Rattle.m3_model.specs.declared.turn.Request.TheVariants as request
use Rattle.m3_outside.specs.declared.disk.Disk.{Ghosts}
use Rattle.m3_outside.specs.declared.disk_err.DiskErr.{DiskErr}
use Rattle.m3_outside.specs.declared.disk_err.DiskErr.TheVariants as disk_err
use Rattle.placement_acts.specs.Acts.{LeadsTo}
use Rattle.placement_plan.specs.First.{IsInitial}
use Rattle.placement_plan.specs.Plans.{IsAvailable}
use Rattle.placement_plan.specs.declared.plan_err.PlaceErr.{PlaceErr}
use Rattle.placement_plan.specs.declared.plan_err.PlaceErr.TheVariants as refused
use Rattle.line_tracks.specs.transcripts.Waiting.{is_covering}
use Rattle.line_tracks.specs.cluster_members.Names.{node_named}
use Rattle.line_tracks.specs.cluster_members.Steps.{MayName, at_moment, with_space}
use Rattle.line_tracks.specs.cluster_members.declared.members.Members.{Members}
use Rattle.served_cluster.specs.Plans.{changes_state}
use Rattle.served_cluster.specs.declared.cluster.Cluster.{Cluster}
use Rattle.saved_cluster.specs.declared.lost.Lost.{Lost}
use Rattle.saved_cluster.specs.declared.lost.Lost.TheVariants as lost

-- so many placements it keeps, with the one that stands
abbrev pub kept_of : {D : Type 0} {G : Ghosts D} → Cluster D G → ℕ
kept_of {D} {G} c = by c.members
  where
    by : Option (Members D G) → ℕ
    by None = 0
    by (Some m) = suc (length m.past.items)

-- the act may change the state
abbrev pub saves_by : Act → Bool
saves_by (act.Init rf shards seed nodes) = true
saves_by (act.Bootstrap node shard) = true
saves_by a = changes_state a

abbrev pub saves : Request → Bool
saves (request.One a) = saves_by a
saves (request.Par clients workers) = false

-- the first state of a cluster on these nodes
pub record IsFirstState (rf shards seed : ℕ) (nodes : List (List ℕ × List ℕ)) (next : MetaState) : Type 0 where
  pub place : IsInitial rf shards nodes next.place
  pub rules : next.rules ≡ record { now = 0; spaces = [] }
  pub seed_is : next.seed ≡ seed

-- the state with the placement to which the act leads, of so many that are kept
pub record IsNextState (state : MetaState) (kept : ℕ) (a : Act) (next : MetaState) : Type 0 where
  pub leads : LeadsTo (Some state.place) kept a next.place
  pub rules : next.rules ≡ state.rules
  pub seed_is : next.seed ≡ state.seed

-- the state with the placement in which moves of shards to the node are over, of those that are asked for, where a version was left
pub record IsMovedState (state : MetaState) (kept : ℕ) (name : List ℕ) (asked : Option ℕ) (next : MetaState) : Type 0 where
  pub node : ℕ
  pub named : node_named name state.place.instances ≡ Some node
  pub shards : List ℕ
  pub some : shards ≢ []
  pub covered : (s : ℕ) → IsIn shards s → IsTrue (is_covering s asked)
  pub over : IsAvailable state.place (map (λ s. (s, node)) shards) next.place
  pub room : kept < MOST_VERSIONS
  pub rules : next.rules ≡ state.rules
  pub seed_is : next.seed ≡ state.seed

-- The state that stands once the act is answered ok: that of a first cluster, with one more namespace, of which the name is new and for which there is room, at another
-- moment, which isn't below the one before, or with the next placement; where a bootstrap ends moves, with the one in which they are over.
abbrev pub LeadsToState : Option MetaState → ℕ → Act → MetaState → Type 0
LeadsToState None kept (act.Init rf shards seed nodes) next = IsFirstState rf shards seed nodes next
LeadsToState (Some state) kept (act.Namespace name block past future retention) next =
    MayName state.rules.spaces (record { name = name; block = block; past = past; future = future; retention = retention })
    × (next ≡ record state { rules = with_space (record { name = name; block = block; past = past; future = future; retention = retention }) state.rules })
LeadsToState (Some state) kept (act.Now now) next = (state.rules.now ≤ now) × (next ≡ record state { rules = at_moment now state.rules })
LeadsToState (Some state) kept (act.Bootstrap node shard) next = IsMovedState state kept node shard next
LeadsToState (Some state) kept a next = IsNextState state kept a next
LeadsToState None kept _ next = ⊥

-- the same of a request
abbrev pub RequestLeadsTo : Option MetaState → ℕ → Request → MetaState → Type 0
RequestLeadsTo state kept (request.One a) next = LeadsToState state kept a next
RequestLeadsTo state kept (request.Par clients workers) next = ⊥

-- the node of a bootstrap isn't one of those that are stopped
abbrev pub IsOnRunning : (List ℕ → Bool) → Request → Type 0
IsOnRunning stopped (request.One (act.Bootstrap node shard)) = stopped node ≡ false
IsOnRunning stopped _ = ⊤

-- the answer where a first placement can't be planned
abbrev pub unplanned : PlaceErr → Answer
unplanned (refused.Group shard) = answer.Group shard
unplanned _ = answer.Memory

-- what a line gets that led to nothing, since its save couldn't be readied
abbrev pub unready : DiskErr → Result Answer Lost
unready disk_err.Memory = Ok answer.Memory
unready disk_err.Failed = Err lost.Meta

-- the request makes a cluster
abbrev pub is_init_request : Request → Bool
is_init_request (request.One (act.Init rf shards seed nodes)) = true
is_init_request _ = false
