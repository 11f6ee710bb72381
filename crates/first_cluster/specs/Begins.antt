-- Replicas that begin for the first time, one after the other.
use Rattle.std.specs.Prelude.{◌≡◌, ℕ, List, take, Result, Err, Some}
use Rattle.std.specs.FinMap.{get}
use Rattle.std.specs.List.{flat_map}
use Rattle.m3_model.specs.Members.{IsIn}
use Rattle.m3_model.specs.declared.reason.Reason.{Reason}
use Rattle.m3_model.specs.declared.reason.Reason.TheVariants as reason
use Rattle.m3_outside.specs.DiskState.{DiskState}
use Rattle.cluster_members.specs.cluster_core.declared.event.Event.{Event}
use Rattle.cluster_members.specs.cluster_core.declared.event.StepCall.TheVariants as call
use Rattle.cluster_members.specs.cluster_core.declared.event.StepReply.{StepReply}
use Rattle.cluster_members.specs.cluster_core.declared.event.StepReply.TheVariants as reply
use Rattle.cluster_members.specs.replica_machine.Steps.{reply_by}
use Rattle.cluster_members.specs.replica_machine.declared.machine.Began.{Began}
use Rattle.cluster_members.specs.replica_exchange.Promises.{Begins}
use Rattle.cluster_members.specs.replica_exchange.declared.member.Member.{Member}
use Rattle.cluster_members.specs.replica_exchange.declared.slot.Slot.{Slot}
use Rattle.cluster_members.specs.replica_calls.Calls.{Tracked}
use Rattle.cluster_members.specs.replica_calls.Slots.{MemberMap}
use Rattle.cluster_members.specs.session_net.Messages.{exchange}
use Rattle.cluster_members.specs.session_net.Runs.{Ran}
use Rattle.first_cluster.specs.declared.start.Start.{Start}

-- What a replica says of its begin.
abbrev pub Said : Type 0
Said = Result Began Reason

-- as its step has it
abbrev pub begin_reply : Said → StepReply
begin_reply said = reply_by (λ began. reply.Began began.fence began.points) said

-- the events of one begin that was answered so
abbrev pub begin_of : Start → Said → List Event
begin_of start said = exchange start.slot.node start.slot.shard (call.Begin start.tenure) (begin_reply said)

-- the events of begins, in their order, each answered as its slot said
abbrev pub begins_of : (Slot → Said) → List Start → List Event
begins_of said starts = flat_map (λ start. begin_of start (said start.slot)) starts

-- the slot's replica did what its machine promises of a begin of which it said this
pub record IsBegunAt {D : Type 0} (state : D → DiskState) (old new : MemberMap D) (start : Start) (said : Said) : Type 0 where
  pub before : Member D
  pub was : get old start.slot ≡ Some before
  pub after : Member D
  pub stands : get new start.slot ≡ Some after
  pub promised : Begins state start.tenure (call.Begin start.tenure) said before.machine after.machine

-- memory was wanted
abbrev pub WantedMemory : Said → Type 0
WantedMemory said = said ≡ Err reason.Memory

-- the slot's replica was begun, and said what fits so
pub record WasBegun {D : Type 0} (state : D → DiskState) (start : Start) (Fits : Said → Type 0) (old new : Tracked D) : Type 0 where
  pub said : Said
  pub ran : Ran state old (begin_of start said) new
  pub begun : IsBegunAt state old.members new.members start said
  pub fits : Fits said

-- the replicas of these starts were begun, one after the other, none with want of memory
pub record HaveBegun {D : Type 0} (state : D → DiskState) (starts : List Start) (old new : Tracked D) : Type 0 where
  pub said : Slot → Said
  pub ran : Ran state old (begins_of said starts) new
  pub each : (start : Start) → IsIn starts start → IsBegunAt state old.members new.members start (said start.slot)
  pub no_want : (start : Start) → IsIn starts start → ¬ WantedMemory (said start.slot)

-- some first ones were begun
pub record HaveSomeBegun {D : Type 0} (state : D → DiskState) (starts : List Start) (old new : Tracked D) : Type 0 where
  pub many : ℕ
  pub said : Slot → Said
  pub ran : Ran state old (begins_of said (take many starts)) new
