-- What a call of one machine does to it and to the list of events.
use Rattle.std.specs.Prelude.{◌≡◌, ◌≢◌, ◌⊎◌, ℕ, ◌+◌, ◌≤◌, List, [], ◌∷◌, ◌++◌, length, Result, Ok, Err}
use Rattle.replica_machine.specs.m3_model.declared.reason.Reason.{Reason}
use Rattle.replica_machine.specs.m3_outside.DiskState.{DiskState}
use Rattle.event_book.specs.Lists.{most_entries}
use Rattle.replica_machine.specs.cluster_core.Replicas.{replica}
use Rattle.replica_machine.specs.cluster_core.declared.event.Event.{Event}
use Rattle.replica_machine.specs.cluster_core.declared.event.StepCall.{StepCall}
use Rattle.replica_machine.specs.cluster_core.declared.event.StepCall.TheVariants as call
use Rattle.replica_machine.specs.cluster_core.declared.event.StepReply.{StepReply}
use Rattle.replica_machine.specs.Machines.{MachineState, IsMachineOf}
use Rattle.replica_machine.specs.Steps.{IsStep, IsGiven, reply_by}
use Rattle.replica_exchange.specs.Exchanges.{Seen, seen_in, ask_of, IsNothing, HasExchanged, HasStepped}
use Rattle.replica_exchange.specs.declared.call_err.CallErr.{CallErr}
use Rattle.replica_exchange.specs.declared.call_err.CallErr.TheVariants as call_err
use Rattle.replica_exchange.specs.declared.member.Member.{Member}
use Rattle.replica_exchange.specs.declared.slot.Slot.{Slot}

-- ---- whose machine it is

-- the machine is that of the slot's replica after these events, made over its first disk
abbrev pub IsMemberOf : {D : Type 0} → (D → DiskState) → Slot → List Event → Member D → Type 0
IsMemberOf state slot events m = IsMachineOf state (state (m.first).value).images (replica slot.node slot.shard events) m.machine

-- the replicas of other slots stay as they are
abbrev pub OtherReplicasStay : Slot → List Event → List Event → Type 0
OtherReplicasStay slot past events = (m t : ℕ) → (m ≡ slot.node → t ≡ slot.shard → ⊥) → replica m t events ≡ replica m t past

-- ---- a call

-- so many more events go in
abbrev pub HasRoom : ℕ → List Event → Type 0
HasRoom more events = length events + more ≤ most_entries

-- what a call answers for what its machine said
abbrev pub result_of : {X Y : Type 0} → (X → Y) → Result X Reason → Result Y CallErr
result_of f (Ok x) = Ok (f x)
result_of f (Err why) = Err (call_err.Refused why)

-- how a call adds to the list
abbrev pub Adding : Type 1
Adding = StepCall → StepReply → Seen → Seen → Type 0

-- what a machine promises of a call that says this
abbrev pub Promise : Type 0 → Type 0 → Type 1
Promise D X = StepCall → Result X Reason → MachineState D → MachineState D → Type 0

-- A machine was called with this call, after these events: it took the step, did what it promises, and the list grew so. The result is what it said.
pub record HasAnswered {D X Y : Type 0} (state : D → DiskState) (c : StepCall) (ok : X → StepReply) (Promised : Promise D X) (Adds : Adding) (f : X → Y) (result : Result Y CallErr) (old : Member D) (past : List Event) (new : Member D) (events : List Event) : Type 0 where
  pub said : Result X Reason
  pub step : IsStep state old.machine c (reply_by ok said) new.machine
  pub promised : Promised c said old.machine new.machine
  pub first : new.first ≡ old.first
  pub adds : Adds c (reply_by ok said) (seen_in past) (seen_in events)
  pub told : result ≡ result_of f said

-- an Ask and the step come to the list
abbrev pub AddsBoth : Slot → Adding
AddsBoth slot c a old new = HasExchanged IsNothing slot.node slot.shard c a old new

-- the step alone comes to the list
abbrev pub AddsStep : Slot → Adding
AddsStep slot c a old new = HasStepped IsNothing slot.node slot.shard c a old new

-- a machine was called, or the list had no room for so many events, and nothing changed
abbrev pub MayAnswerBy : {D X Y : Type 0} → ℕ → Adding → (D → DiskState) → StepCall → (X → StepReply) → Promise D X → (X → Y) → Result Y CallErr → Member D → List Event → Member D → List Event → Type 0
MayAnswerBy more Adds state c ok Promised f result old past new events =
    ((¬ HasRoom more past) × (result ≡ Err call_err.Full) × (new ≡ old) × (events ≡ past)) ⊎ HasAnswered state c ok Promised Adds f result old past new events

-- with an Ask
abbrev pub MayAnswer : {D X Y : Type 0} → (D → DiskState) → Slot → StepCall → (X → StepReply) → Promise D X → (X → Y) → Result Y CallErr → Member D → List Event → Member D → List Event → Type 0
MayAnswer state slot c ok Promised f result old past new events = MayAnswerBy 2 (AddsBoth slot) state c ok Promised f result old past new events

-- ---- the step that answers an Ask

-- The list ends with an Ask for this call of the slot. What the call is given stood before it, and a machine that is the slot's replica after that took this
-- step.
pub record IsAnswer {D : Type 0} (state : D → DiskState) (slot : Slot) (c : StepCall) (a : StepReply) (events : List Event) : Type 0 where
  pub past : List Event
  pub asked : events ≡ past ++ ask_of slot.node slot.shard c ∷ []
  pub opened : 2 ≤ length past
  pub given : IsGiven past slot.node slot.shard c
  pub old : Member D
  pub new : MachineState D
  pub is : IsMemberOf state slot past old
  pub step : IsStep state old.machine c a new
  pub answers : c ≢ call.Report
