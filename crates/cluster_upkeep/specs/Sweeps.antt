-- What replicas are asked for in a sweep, and what that brings.
use Rattle.std.specs.Prelude.{◌≡◌, ℕ, List, map, Result, Err, IsErrOf}
use Rattle.std.specs.List.{flat_map}
use Rattle.m3_model.specs.Members.{IsIn}
use Rattle.m3_model.specs.declared.reason.Damage.{Damage}
use Rattle.m3_model.specs.declared.reason.Reason.{Reason}
use Rattle.m3_model.specs.declared.reason.Reason.TheVariants as reason
use Rattle.m3_model.specs.declared.rules.Rules.{Rules}
use Rattle.m3_outside.specs.DiskState.{DiskState}
use Rattle.cluster_core.specs.declared.event.Event.{Event}
use Rattle.cluster_core.specs.declared.event.StepCall.{StepCall}
use Rattle.cluster_core.specs.declared.event.StepCall.TheVariants as call
use Rattle.cluster_core.specs.declared.event.StepReply.TheVariants as reply
use Rattle.node_calls.specs.replica_machine.Damages.{IsFileDamage}
use Rattle.node_calls.specs.replica_machine.Steps.{reply_by}
use Rattle.node_calls.specs.replica_exchange.declared.slot.Slot.{Slot}
use Rattle.node_calls.specs.replica_calls.Calls.{Tracked}
use Rattle.node_calls.specs.session_net.Messages.{exchange}
use Rattle.node_calls.specs.session_net.Runs.{Ran}
use Rattle.node_calls.specs.transcripts.Sweeps.{Entry, done_in, failed_in, slot_of}
use Rattle.cluster_upkeep.specs.Rows.{slot_in}
use Rattle.cluster_upkeep.specs.declared.rows.Row.{Row}
use Rattle.cluster_upkeep.specs.declared.sweeps.Job.{Job}
use Rattle.cluster_upkeep.specs.declared.sweeps.Job.TheVariants as job

-- what the job asks a replica for
abbrev pub call_by : Job → Rules → StepCall
call_by job.Tick rules = call.Tick rules
call_by job.Flush rules = call.Flush rules
call_by job.Snapshot rules = call.Snapshot

-- the replica of the slot was asked, and said so; damage is that of a file
pub record HasSaid {D : Type 0} (state : D → DiskState) (slot : Slot) (c : StepCall) (said : Result ℕ Reason) (old new : Tracked D) : Type 0 where
  pub ran : Ran state old (exchange slot.node slot.shard c (reply_by (λ n. reply.Count n) said)) new
  pub form : (damage : Damage) → IsErrOf said (reason.Corrupt damage) → IsFileDamage damage

-- the replica of an entry is asked, and says so
abbrev pub asked_at : StepCall → Entry → List Event
asked_at c e = exchange e.node e.shard c (reply_by (λ n. reply.Count n) e.said)

-- damage that entries tell is that of files
abbrev pub AreOfFiles : List Entry → Type 0
AreOfFiles entries = (e : Entry) → IsIn entries e → (damage : Damage) → IsErrOf e.said (reason.Corrupt damage) → IsFileDamage damage

-- the replicas of these rows were asked, one after the other: those that did it, and those that refused
pub record EndsSweep {D : Type 0} (state : D → DiskState) (c : StepCall) (rows : List Row) (done : List (ℕ × ℕ × ℕ)) (failed : List (ℕ × ℕ × Reason)) (old new : Tracked D) : Type 0 where
  pub entries : List Entry
  pub of_rows : map slot_of entries ≡ map slot_in rows
  pub ran : Ran state old (flat_map (asked_at c) entries) new
  pub files : AreOfFiles entries
  pub done_are : done ≡ done_in entries
  pub failed_are : failed ≡ failed_in entries
