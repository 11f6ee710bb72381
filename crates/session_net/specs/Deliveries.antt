-- What becomes of late writes when they are delivered.
use Rattle.std.specs.Prelude.{◌≡◌, ◌≤◌, ◌⊎◌, ℕ, ◌*◌, ⊤, List, [], ◌∷◌, ◌++◌, map, filter, length, Option, Result, nat_lt}
use Rattle.std.specs.Result.{result_err}
use Rattle.m3_model.specs.declared.limits.TheConstants.{MOST_LATE_WRITES}
use Rattle.m3_model.specs.declared.reason.Reason.{Reason}
use Rattle.m3_model.specs.declared.rules.Rules.{Rules}
use Rattle.replica_calls.specs.m3_outside.DiskState.{DiskState}
use Rattle.replica_calls.specs.m3_outside.declared.disk.Disk.{Ghosts}
use Rattle.replica_calls.specs.cluster_core.declared.event.Event.{Event}
use Rattle.replica_calls.specs.cluster_core.declared.event.StepCall.{StepCall}
use Rattle.replica_calls.specs.cluster_core.declared.event.StepCall.TheVariants as call
use Rattle.replica_calls.specs.cluster_core.declared.event.StepReply.TheVariants as reply
use Rattle.net_plan.specs.declared.late_write.LateWrite.{LateWrite}
use Rattle.replica_calls.specs.MachineCalls.{HasRoom}
use Rattle.session_net.specs.Messages.{IsDelivery}
use Rattle.session_net.specs.Runs.{Ran}
use Rattle.session_net.specs.declared.net.Net.{Net}
use Rattle.session_net.specs.declared.session_err.SessionErr.{SessionErr}
use Rattle.session_net.specs.declared.session_err.SessionErr.TheVariants as err

-- those of them whose namespace is one of the rules; namespaces stay, so none is ever lost here
abbrev pub known : Rules → List LateWrite → List LateWrite
known rules late = filter (λ one. nat_lt one.point.ns (length rules.spaces)) late

-- what the replica there is asked
abbrev pub late_put : Rules → LateWrite → StepCall
late_put rules late = call.Put late.client late.number rules late.version late.point

-- its node, its shard, and what became of it
abbrev pub outcome_of : LateWrite × Result ⊤ Reason → ℕ × ℕ × Option Reason
outcome_of d = (d.0.node, d.0.shard, result_err d.1)

-- each of the late writes was put once, in their order, at its own version, and brought these events
abbrev pub AreDelivered : Rules → List LateWrite → List (LateWrite × Result ⊤ Reason) → List Event → Type 0
AreDelivered rules [] [] events = events ≡ []
AreDelivered rules (one ∷ late) (d ∷ deliveries) events =
    (d.0 ≡ one) × (first rest : List Event) × (events ≡ first ++ rest) × IsDelivery (λ (u : ⊤). reply.Done) one.node one.shard (late_put rules one) d.1 first × AreDelivered rules late deliveries rest
AreDelivered rules _ _ events = ⊥

-- all late writes of the bag, which were few, were delivered, and it is empty
pub record HasDelivered {D : Type 0} {G : Ghosts D} (state : D → DiskState) (old : Net D G) (outcomes : List (ℕ × ℕ × Option Reason)) (new : Net D G) : Type 0 where
  pub few : length old.bag ≤ MOST_LATE_WRITES
  pub deliveries : List (LateWrite × Result ⊤ Reason)
  pub puts : List Event
  pub delivered : AreDelivered old.state.rules (known old.state.rules old.bag) deliveries puts
  pub outcomes_are : outcomes ≡ map outcome_of deliveries
  pub ran : Ran state old.replicas puts new.replicas
  pub emptied : new.bag ≡ []

-- no replica was asked: for want of memory, after which the late writes are still there or all lost; or as the list had no room for what they add, and
-- nothing changed
abbrev pub IsUndelivered : {D : Type 0} {G : Ghosts D} → Net D G → Net D G → SessionErr → Type 0
IsUndelivered old new err.Memory = (new.replicas ≡ old.replicas) × ((new.bag ≡ old.bag) ⊎ (new.bag ≡ []))
IsUndelivered old new err.Full = (new ≡ old) × ¬ HasRoom (2 * MOST_LATE_WRITES) old.replicas.events
IsUndelivered old new _ = ⊥
