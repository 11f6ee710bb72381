-- When calls of clients may be made.
use Rattle.std.specs.Prelude.{◌≡◌, ◌≢◌, ℕ, List, Some, None}
use Rattle.std.specs.FinMap as finite
use Rattle.std.specs.List.{Any}
use Rattle.m3_model.specs.Members.{IsIn}
use Rattle.m3_model.specs.declared.placement.Placement.{Placement}
use Rattle.m3_model.specs.declared.rules.MetaState.{MetaState}
use Rattle.replica_calls.specs.cluster_core.Earlier.{HasSend, last_clock, last_place}
use Rattle.replica_calls.specs.cluster_core.declared.event.Event.{Event}
use Rattle.replica_calls.specs.cluster_core.declared.event.Event.TheVariants as event
use Rattle.net_plan.specs.declared.late_write.LateWrite.{LateWrite}
use Rattle.replica_calls.specs.placement_core.Lawful.{IsLawful}
use Rattle.replica_calls.specs.placement_core.Shards.{shard_at, nodes_of}
use Rattle.replica_calls.specs.Calls.{Tracked}
use Rattle.session_net.specs.Runs.{slot_at}

-- a late write was sent, to a replica that is there
pub record IsLateSend {D : Type 0} (replicas : Tracked D) (late : LateWrite) : Type 0 where
  pub sent : HasSend replicas.events late.version late.shard late.point
  pub there : finite.get replicas.members (slot_at late.node late.shard) ≢ None

-- a Place of this placement
abbrev pub Places : Placement → Event → Type 0
Places place (event.Place placed done) = placed ≡ place
Places place _ = ⊥

-- The list's last moment is that by which calls go, and the placement, which is lawful, is one of its own. Each replica of it is there, and each late write was sent.
pub record IsCallable {D : Type 0} (state : MetaState) (replicas : Tracked D) (bag : List LateWrite) : Type 0 where
  pub clock : last_clock replicas.events ≡ Some state.rules
  pub place : Any (Places state.place) replicas.events
  pub lawful : IsLawful state.place
  pub there : (n s : ℕ) → IsIn (nodes_of (shard_at state.place s)) n → finite.get replicas.members (slot_at n s) ≢ None
  pub late : (one : LateWrite) → IsIn bag one → IsLateSend replicas one

-- The list's last moment and placement are those that calls go by, each replica of the placement is there, and each late write was sent.
pub record IsReady {D : Type 0} (state : MetaState) (replicas : Tracked D) (bag : List LateWrite) : Type 0 where
  pub clock : last_clock replicas.events ≡ Some state.rules
  pub place : last_place replicas.events ≡ Some state.place
  pub lawful : IsLawful state.place
  pub there : (n s : ℕ) → IsIn (nodes_of (shard_at state.place s)) n → finite.get replicas.members (slot_at n s) ≢ None
  pub late : (one : LateWrite) → IsIn bag one → IsLateSend replicas one
