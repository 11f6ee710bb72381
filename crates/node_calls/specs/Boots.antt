-- What a restart answers where a replica of the node refuses, and what is answered of a shard that isn't there.
use Rattle.std.specs.Prelude.{◌≡◌, ⊤, ℕ, List, Result, Ok, Err, decimal}
use Rattle.m3_model.specs.declared.answer.Answer.{Answer}
use Rattle.m3_model.specs.declared.answer.Answer.TheVariants as answer
use Rattle.m3_model.specs.declared.reason.Reason.{Reason}
use Rattle.m3_model.specs.declared.reason.Reason.TheVariants as reason
use Rattle.m3_outside.specs.DiskState.{DiskState}
use Rattle.cluster_members.specs.cluster_core.declared.event.Event.{Event}
use Rattle.cluster_members.specs.cluster_core.declared.event.StepCall.TheVariants as call
use Rattle.cluster_members.specs.cluster_core.declared.event.StepReply.TheVariants as reply
use Rattle.cluster_members.specs.replica_exchange.declared.slot.Slot.{Slot}
use Rattle.cluster_members.specs.replica_calls.Calls.{Tracked}
use Rattle.cluster_members.specs.session_net.Messages.{exchange}
use Rattle.cluster_members.specs.session_net.Runs.{Ran}
use Rattle.node_calls.specs.Halts.{IsRestartRefusal, IsUnrestarted, restart_at}
use Rattle.node_calls.specs.declared.refused.Refused.{Refused}

-- a fault, or else want of memory
abbrev pub refused_answer : List ℕ → ℕ → Reason → Answer
refused_answer name shard reason.Disk = answer.Disk name shard
refused_answer name shard _ = answer.Memory

-- the number of a shard that isn't there; or there is no memory to say so
abbrev pub IsNumberOf : ℕ → Answer → Type 0
IsNumberOf shard (answer.Unknown name) = name ≡ decimal shard
IsNumberOf shard answer.Memory = ⊤
IsNumberOf shard _ = ⊥

-- the replica of the slot was restarted or refused
abbrev pub IsRestartTried : {D : Type 0} → (D → DiskState) → Slot → Tracked D → Tracked D → Result Unit Refused → Type 0
IsRestartTried state slot old new (Ok u) = Ran state old (restart_at slot) new
IsRestartTried state slot old new (Err refused) = (refused.shard ≡ slot.shard) × IsRestartRefusal refused.why × Ran state old (exchange slot.node slot.shard call.Restart (reply.Refused refused.why)) new

-- one of these slots couldn't be restarted
pub record EndsRestarts {D : Type 0} (state : D → DiskState) (slots : List Slot) (shard : ℕ) (why : Reason) (old new : Tracked D) : Type 0 where
  pub tried : List Event
  pub refused : IsUnrestarted slots shard why tried
  pub ran : Ran state old tried new
